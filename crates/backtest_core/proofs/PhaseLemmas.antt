-- A whole phase: its commands are given, and then the replies are heard.
use Rattle.std.proofs.Common.{◌≡◌, ℕ, suc, ◌+◌, List, [], ◌∷◌, ◌++◌, true, refl, ap, sym, ◌∙◌, arith}
use Rattle.std.specs.Prelude.{Option, Some, None, length, cond}
use Rattle.std.specs.List.{fold, filter_map}
use Rattle.std.proofs.lemmas.List.{append-nil, append_assoc}
use Rattle.std.proofs.lemmas.List.Elements.{filter_map-append}
use Rattle.lean_orders.specs.declared.desk.Command.{Command}
use Rattle.lean_orders.specs.declared.desk.Reply.{Reply}
use Rattle.clock_book.specs.Books.{Book}
use Rattle.clock_book.specs.Handled.{replies}
use Rattle.clock_book.specs.Seen.{given_out, learnt}
use Rattle.clock_run.specs.Moments.{told}
use Rattle.backtest_core.specs.declared.phase.Phase.{Phase}
use Rattle.backtest_core.specs.declared.phase.Phase.TheVariants.{Prices, Rules, Close}
use Rattle.backtest_core.specs.Inside.{Inside, begins, commands_of, is_over_in, entered, counted_in, hearing}
use Rattle.backtest_core.specs.Whole.{given_all, heard_all, through}

-- so many more requests
abbrev pub requests_behind : Option Phase → ℕ → ℕ → ℕ
requests_behind (Some Rules) n requests = requests + n
requests_behind (Some Prices) n requests = requests
requests_behind (Some Close) n requests = requests
requests_behind None n requests = requests

requests-more : (phase : Option Phase) (n requests : ℕ) → requests_behind phase n (counted_in phase requests) ≡ requests_behind phase (suc n) requests
requests-more (Some Rules) n requests = omega arith
requests-more (Some Prices) n requests = refl
requests-more (Some Close) n requests = refl
requests-more None n requests = refl

requests-none : (phase : Option Phase) (requests : ℕ) → requests ≡ requests_behind phase 0 requests
requests-none (Some Rules) requests = omega arith
requests-none (Some Prices) requests = refl
requests-none (Some Close) requests = refl
requests-none None requests = refl

-- some commands are given
abbrev gone : List Command → Inside → Inside
gone cs i = record i {
  left = [];
  standing = record i.standing {
    seen = fold given_out i.standing.seen cs;
    requests = requests_behind i.phase (length cs) i.standing.requests;
  };
}

with-left : List Command → Inside → Inside
with-left cs i = record i { left = cs }

given-gone : (cs : List Command) (i : Inside) → given_all cs (record i { left = cs }) ≡ gone cs i
unfolding given_all
given-gone [] i = λ j. record i { left = []; standing = record i.standing { requests = requests-none i.phase i.standing.requests j } }
given-gone (c ∷ cs) i =
    let later = record i { standing = record i.standing { seen = given_out i.standing.seen c; requests = counted_in i.phase i.standing.requests } } in
    given-gone cs later
    ∙ (λ j. record i {
      left = [];
      standing = record i.standing {
        seen = fold given_out (given_out i.standing.seen c) cs;
        requests = requests-more i.phase (length cs) i.standing.requests j;
      };
    })

-- some replies are heard
abbrev heard : List Reply → Inside → Inside
heard rs i = record i {
  standing = record i.standing { seen = fold learnt i.standing.seen rs };
  lines = i.lines ++ filter_map (told i.at) rs;
}

heard-all : (rs : List Reply) (i : Inside) → heard_all rs i ≡ heard rs i
unfolding heard_all
heard-all [] i = λ j. record i { lines = sym (append-nil i.lines) j }
heard-all (r ∷ rs) i =
    let lines : (i.lines ++ filter_map (told i.at) (r ∷ [])) ++ filter_map (told i.at) rs ≡ i.lines ++ filter_map (told i.at) (r ∷ rs) =
    append_assoc i.lines (filter_map (told i.at) (r ∷ [])) (filter_map (told i.at) rs)
    ∙ ap (λ more. i.lines ++ more) (sym (filter_map-append (told i.at) (r ∷ []) rs)) in
    heard-all rs (hearing r i)
    ∙ (λ j. record i { standing = record i.standing { seen = fold learnt (learnt i.standing.seen r) rs }; lines = lines j })

-- a phase that has not begun
abbrev pub IsBefore : Phase → Inside → Type 0
IsBefore phase i = begins phase i.phase ≡ true

-- a core behind a phase, with its commands and the replies to them
abbrev pub ended : Phase → List Command → List Reply → Inside → Inside
ended phase cs rs i = record i {
  phase = Some phase;
  left = [];
  over = is_over_in phase i;
  standing = record i.standing {
    seen = fold learnt (fold given_out i.standing.seen cs) rs;
    requests = requests_behind (Some phase) (length cs) i.standing.requests;
  };
  lines = i.lines ++ filter_map (told i.at) rs;
}

pub entered-is : (phase : Phase) (i : Inside) → IsBefore phase i
    → entered phase i ≡ record i { phase = Some phase; left = commands_of phase i; over = is_over_in phase i }
entered-is phase i before =
    ap (λ b. cond b (record i { phase = Some phase; left = commands_of phase i; over = is_over_in phase i }) i) before

pub through-ended : (phase : Phase) (book : Book) (i : Inside) → IsBefore phase i
    → through phase book i ≡ ended phase (commands_of phase i) (replies book (commands_of phase i)) i
unfolding through
through-ended phase book i before =
    let begun = record i { phase = Some phase; left = commands_of phase i; over = is_over_in phase i } in
    let cs = commands_of phase i in
    ap (λ e. heard_all (replies book e.left) (given_all e.left e)) (entered-is phase i before)
    ∙ (ap (heard_all (replies book cs)) (given-gone cs begun)
    ∙ heard-all (replies book cs) (gone cs begun))
