-- What a core is behind some commands of a phase and some replies.
use Rattle.std.proofs.Common.{◌≡◌, ℕ, List, [], ◌∷◌, ◌++◌, false, refl, ap, sym, ◌∙◌}
use Rattle.std.specs.Prelude.{Bool, Option, Some, cond, filter_map}
use Rattle.std.specs.List.{fold}
use Rattle.std.proofs.lemmas.List.{append-nil, append_assoc}
use Rattle.std.proofs.lemmas.List.Elements.{filter_map-append}
use Rattle.lean_orders.specs.declared.desk.Command.{Command}
use Rattle.lean_orders.specs.declared.desk.Reply.{Reply}
use Rattle.clock_book.specs.Seen.{given_out, learnt}
use Rattle.clock_run.specs.Moments.{told}
use Rattle.clock_run.specs.States.{Setup, Subscription}
use Rattle.backtest_core.specs.declared.phase.Phase as core
use Rattle.backtest_core.specs.declared.phase.Phase.TheVariants as core_phase
use Rattle.backtest_core.specs.Standing.{Followed}
use Rattle.backtest_core.specs.Inside.{Inside, begins, entered, behind_first, next, hearing, commands_of, is_over_in}
use Rattle.backtest_core.specs.Whole.{given_all, heard_all}

-- what neither commands nor replies change
pub record Frame : Type 0 where
  pub at : ℕ
  pub setup : Setup
  pub waiting : List Subscription
  pub followed : List Followed
  pub phase : Option core.Phase
  pub over : Bool
  pub news : List (List ℕ)

abbrev pub frame : Inside → Frame
frame i = record {
  at = i.at;
  setup = i.standing.setup;
  waiting = i.standing.waiting;
  followed = i.standing.followed;
  phase = i.phase;
  over = i.over;
  news = i.news;
}

module _ {A : Type 0} (f : Inside → A) where
  given-same : ((left : List Command) (i : Inside) → f (behind_first left i) ≡ f i) → (cs : List Command) (i : Inside) → f (given_all cs i) ≡ f i
  unfolding given_all
  given-same same [] i = refl
  given-same same (c ∷ cs) i = given-same same cs (next i) ∙ same i.left i

  heard-same : ((r : Reply) (i : Inside) → f (hearing r i) ≡ f i) → (rs : List Reply) (i : Inside) → f (heard_all rs i) ≡ f i
  unfolding heard_all
  heard-same same [] i = refl
  heard-same same (r ∷ rs) i = heard-same same rs (hearing r i) ∙ same r i

frame-first : (left : List Command) (i : Inside) → frame (behind_first left i) ≡ frame i
frame-first [] i = refl
frame-first (c ∷ cs) i = refl

lines-first : (left : List Command) (i : Inside) → (behind_first left i).lines ≡ i.lines
lines-first [] i = refl
lines-first (c ∷ cs) i = refl

pub given-frame : (cs : List Command) (i : Inside) → frame (given_all cs i) ≡ frame i
given-frame cs i = given-same frame frame-first cs i

pub given-lines : (cs : List Command) (i : Inside) → (given_all cs i).lines ≡ i.lines
given-lines cs i = given-same (λ (j : Inside). j.lines) lines-first cs i

pub heard-frame : (rs : List Reply) (i : Inside) → frame (heard_all rs i) ≡ frame i
heard-frame rs i = heard-same frame (λ r j. refl) rs i

pub heard-left : (rs : List Reply) (i : Inside) → (heard_all rs i).left ≡ i.left
heard-left rs i = heard-same (λ (j : Inside). j.left) (λ r j. refl) rs i

pub heard-at : (rs : List Reply) (i : Inside) → (heard_all rs i).at ≡ i.at
heard-at rs i = ap (λ (k : Frame). k.at) (heard-frame rs i)

pub heard-seen : (rs : List Reply) (i : Inside) → (heard_all rs i).standing.seen ≡ fold learnt i.standing.seen rs
unfolding heard_all
heard-seen [] i = refl
heard-seen (r ∷ rs) i = heard-seen rs (hearing r i)

pub heard-lines : (rs : List Reply) (i : Inside) → (heard_all rs i).lines ≡ i.lines ++ filter_map (told i.at) rs
unfolding heard_all
heard-lines [] i = sym (append-nil i.lines)
heard-lines (r ∷ rs) i =
    heard-lines rs (hearing r i)
    ∙ (append_assoc i.lines (filter_map (told i.at) (r ∷ [])) (filter_map (told i.at) rs)
    ∙ ap (λ more. i.lines ++ more) (sym (filter_map-append (told i.at) (r ∷ []) rs)))

-- the commands that are given are the first of those that are left
pub given-seen : (cs more : List Command) (i : Inside) → i.left ≡ cs ++ more → (given_all cs i).standing.seen ≡ fold given_out i.standing.seen cs
unfolding given_all
given-seen [] more i is = refl
given-seen (c ∷ cs) more i is =
    ap (λ left. (given_all cs (behind_first left i)).standing.seen) is
    ∙ given-seen cs more (behind_first (c ∷ cs ++ more) i) refl

pub given-left : (cs more : List Command) (i : Inside) → i.left ≡ cs ++ more → (given_all cs i).left ≡ more
unfolding given_all
given-left [] more i is = is
given-left (c ∷ cs) more i is =
    ap (λ left. (given_all cs (behind_first left i)).left) is
    ∙ given-left cs more (behind_first (c ∷ cs ++ more) i) refl

-- one command more, and one reply more
pub given-one : (cs : List Command) (c : Command) (i : Inside) → given_all (cs ++ c ∷ []) i ≡ next (given_all cs i)
unfolding given_all
given-one [] c i = refl
given-one (x ∷ cs) c i = given-one cs c (next i)

pub given-none : (i : Inside) → given_all [] i ≡ i
unfolding given_all
given-none i = refl

pub heard-none : (i : Inside) → heard_all [] i ≡ i
unfolding heard_all
heard-none i = refl

pub heard-one : (rs : List Reply) (r : Reply) (i : Inside) → heard_all (rs ++ r ∷ []) i ≡ hearing r (heard_all rs i)
unfolding heard_all
heard-one [] r i = refl
heard-one (x ∷ rs) r i = heard-one rs r (hearing x i)

-- a phase that has begun begins no more
pub begins-once : (p : core.Phase) → begins p (Some p) ≡ false
begins-once core_phase.Prices = refl
begins-once core_phase.Rules = refl
begins-once core_phase.Close = refl

pub entered-once : (p : core.Phase) (i : Inside) → i.phase ≡ Some p → entered p i ≡ i
entered-once p i is =
    ap (λ b. cond b (record i { phase = Some p; left = commands_of p i; over = is_over_in p i }) i)
    (ap (λ phase. begins p phase) is ∙ begins-once p)
