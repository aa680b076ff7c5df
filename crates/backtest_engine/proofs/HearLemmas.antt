-- An algorithm hears a reply.
use Rattle.std.proofs.Common.{◌≡◌, ◌+◌, ◌≤◌, ℤ, List, [], ◌∷◌, ◌++◌, true, false, ap, sym, subst, ◌∙◌, arith, inl, inr}
use Rattle.std.specs.Prelude.{◌⊎◌, pos, length, filter_map, Bool}
use Rattle.std.specs.List.{AllByRecursion as Each, fold}
use Rattle.std.proofs.lemmas.Bool.{false≢true}
use Rattle.std.proofs.lemmas.List.{append_assoc}
use Rattle.std.proofs.lemmas.List.Elements.{filter_map-append}
use Rattle.lean_fixed.specs.declared.time.Moment.{Moment}
use Rattle.lean_orders.specs.declared.desk.Command.{Command}
use Rattle.lean_orders.specs.declared.desk.Reply.{Reply}
use Rattle.lean_orders.specs.declared.desk.Reply.TheVariants.{Event, Account, Done}
use Rattle.clock_book.specs.Fitting.{most_orders}
use Rattle.clock_book.specs.Handled.{replies}
use Rattle.clock_book.specs.InRange.{IsReply, submitted}
use Rattle.clock_book.specs.Seen.{Seen, given_out, learnt, seen_of}
use Rattle.clock_run.specs.Moments.{equity_told}
use Rattle.report_stats.specs.declared.stats.Stats.{Stats}
use Rattle.report_stats.specs.Stands.{StandsFor as StatsStand}
use Rattle.backtest_core.specs.declared.standing.Core.{Core}
use Rattle.backtest_core.specs.Calls.{CanHear}
use Rattle.backtest_core.specs.Core.{StandsIn, GivesNoMore}
use Rattle.backtest_core.specs.Inside.{Inside, hearing}
use Rattle.backtest_core.specs.Whole.{given_all}
use Rattle.backtest_engine.specs.declared.algorithm.Algorithm.{Algorithm}
use Rattle.backtest_engine.specs.Algorithms.{Own, plan_of, begun}
use Rattle.backtest_engine.specs.BookLemmas.{each-mid, in-range-replies, replies-heard}
use Rattle.backtest_engine.specs.InsideLemmas.{heard-one}
use Rattle.backtest_engine.specs.Meaning.{Meaning}
use Rattle.backtest_engine.specs.Playing.{Waits, Within, behind_all}
use Rattle.backtest_engine.specs.PlayingLaws.{HasEquity}
use Rattle.backtest_engine.specs.ReachLemmas.{behind-is}
use Rattle.backtest_engine.specs.Turns.{Turn}
use Rattle.backtest_engine.proofs.WithinLemmas.{within-next}

abbrev is-empty : List Reply → Bool
is-empty [] = true
is-empty (r ∷ rs) = false

has-equity : (at : ℤ) (r : Reply) → IsReply at r → HasEquity r
has-equity at (Event event) is = tt
has-equity at (Account cash equity) is = is.1
has-equity at Done is = tt

abbrev pub Hears : Algorithm → Core → Reply → Type 0
Hears a core r = (i : Inside) → StandsIn a.core i → CanHear i.standing.seen r → StandsIn core (hearing r i)

abbrev pub Closes : Algorithm → Stats → Reply → Type 0
Closes a stats r = (start : ℤ) (equities : List ℤ) → StatsStand a.stats start equities → HasEquity r
    → StatsStand stats start (equities ++ filter_map equity_told (r ∷ []))

-- nothing is replied where nothing was asked
none-replied : (turn : Turn Own) (r : Reply) (rest : List Reply) → replies turn.state.book [] ≡ r ∷ rest → ⊥
unfolding replies
none-replied turn r rest e = false≢true (sym (ap is-empty e))

heard-in : (a : Algorithm) (core : Core) (turn : Turn Own) (cs : List Command) (rs : List Reply) (r : Reply) (rest : List Reply)
    → Hears a core r → replies turn.state.book cs ≡ rs ++ r ∷ rest
    → (StandsIn a.core (behind_all turn.phase turn.state.own cs rs) → CanHear (behind_all turn.phase turn.state.own cs rs).standing.seen r)
    → Waits a.core turn.phase turn.state.own cs rs ⊎ StandsIn a.core (behind_all turn.phase turn.state.own cs rs)
    → StandsIn core (behind_all turn.phase turn.state.own cs (rs ++ r ∷ []))
heard-in a core turn cs rs r rest hears is can (inl w) =
    let one : replies turn.state.book [] ≡ r ∷ rest = ap (λ cs. replies turn.state.book cs) (sym w.none) ∙ (is ∙ ap (λ rs. rs ++ r ∷ rest) w.silent) in
    absurd (none-replied turn r rest one)
heard-in a core turn cs rs r rest hears is can (inr stands) =
    subst (λ i. StandsIn core i) (sym (heard-one rs r (given_all cs (begun turn.phase turn.state.own))))
    (hears (behind_all turn.phase turn.state.own cs rs) stands (can stands))

pub heard-more : (m : Meaning Own) (a : Algorithm) (core : Core) (stats : Stats) (turn : Turn Own) (cs : List Command) (rs : List Reply) (r : Reply)
    → Within a m turn cs rs → GivesNoMore a.core core → Hears a core r → Closes a stats r
    → Within (record a { core = core; stats = stats }) m turn cs (rs ++ r ∷ [])
heard-more m a core stats turn cs rs r w numbers hears closes = within-next m a core stats turn cs cs rs (rs ++ r ∷ []) w numbers w.fitting w.time (omega (arith, w.room, numbers.requests))
    (λ rest is.
    let book = turn.state.book in
    let split : replies book cs ≡ rs ++ r ∷ rest = is ∙ append_assoc rs (r ∷ []) rest in
    let p = w.plays (r ∷ rest) split in
    let few : length book.orders + submitted cs ≤ most_orders = omega (arith, w.room) in
    let can : CanHear (fold learnt (fold given_out (seen_of book) cs) rs) r =
    replies-heard book cs (pos turn.at) w.ranged w.fitting w.time few w.printed rs r rest split in
    let b = behind-is turn.phase turn.state.own cs _ rs w.clean p.split in
    let seen = b.seen ∙ ap (λ (seen : Seen). fold learnt (fold given_out seen cs) rs) w.seen in
    let one : IsReply (pos turn.at) r = each-mid (λ x. IsReply (pos turn.at) x) rs r rest
    (subst (λ xs. Each (λ x. IsReply (pos turn.at) x) xs) split (in-range-replies book cs w.ranged w.fitting few (pos turn.at) w.time)) in
    record {
      core = inr (heard-in a core turn cs rs r rest hears split (λ stands. subst (λ seen. CanHear seen r) (sym seen) can) p.core);
      split = p.split;
      stats = subst (λ es. StatsStand stats (plan_of turn.state.own).cash.0 es)
          (append_assoc turn.state.own.equities (filter_map equity_told rs) (filter_map equity_told (r ∷ []))
          ∙ ap (λ es. turn.state.own.equities ++ es) (sym (filter_map-append equity_told rs (r ∷ []))))
          (closes (plan_of turn.state.own).cash.0 (turn.state.own.equities ++ filter_map equity_told rs) p.stats (has-equity (pos turn.at) r one));
    })
