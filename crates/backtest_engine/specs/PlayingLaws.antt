-- What an algorithm owes as a strategy beside the clauses of its calls.
use Rattle.std.proofs.Common.{◌≡◌, ℕ, ◌≤◌, List, [], false, sym, subst, arith}
use Rattle.lean_fixed.specs.Ranges.{IsMoney}
use Rattle.lean_orders.specs.declared.desk.Command.{Command}
use Rattle.lean_orders.specs.declared.desk.Reply.{Reply}
use Rattle.lean_orders.specs.declared.desk.Reply.TheVariants.{Event, Account, Done}
use Rattle.clock_book.specs.Fitting.{most_orders}
use Rattle.clock_steps.specs.Runs.{rests}
use Rattle.backtest_core.specs.declared.stop.Stop as core
use Rattle.backtest_core.specs.declared.stop.Stop.TheVariants as core_stop
use Rattle.backtest_core.specs.Core.{requests_of}
use Rattle.backtest_engine.specs.declared.algorithm.Algorithm.{Algorithm}
use Rattle.backtest_engine.specs.declared.limits.Limit.TheVariants.{Securities, Requests}
use Rattle.backtest_engine.specs.declared.limits.Stop.{Stop}
use Rattle.backtest_engine.specs.declared.limits.Stop.TheVariants.{NoMemory, Limited}
use Rattle.backtest_engine.specs.Algorithms.{Own}
use Rattle.backtest_engine.specs.Meaning.{State, Meaning, moment_of}
use Rattle.backtest_engine.specs.Meets.{IsMet}
use Rattle.backtest_engine.specs.Playing.{Between, Within}
use Rattle.backtest_engine.specs.Turns.{Turn, HasNext, IsFinished, text_after, turn_after}
use Rattle.backtest_engine.specs.RestLemmas.{rests-between}
use Rattle.backtest_engine.specs.ReachLemmas.{finished, passed, said}

-- the limits of a core are limits of the run
abbrev pub stop_of : core.Stop → Stop
stop_of core_stop.NoMemory = NoMemory
stop_of core_stop.Requests = Limited Requests
stop_of core_stop.Securities = Limited Securities

-- the equity that a reply tells is money
abbrev pub HasEquity : Reply → Type 0
HasEquity (Event event) = Unit {0}
HasEquity (Account cash equity) = IsMoney equity.0
HasEquity Done = Unit {0}

pub few_requests : (a : Algorithm) → requests_of a.core ≤ most_orders
few_requests a = omega arith

pub behind_phase : (a : Algorithm) (m : Meaning Own) (turn : Turn Own) (cs : List Command) (rs : List Reply)
    → Within a m turn cs rs → IsFinished m turn cs rs → HasNext turn.phase → Within a m (turn_after m turn) [] []
behind_phase a m turn cs rs w f has =
    subst (λ m. Within a m (turn_after m turn) [] []) (sym w.means)
    (passed w.setup a turn (finished w.setup a turn cs rs
    (subst (λ m. Within a m turn cs rs) w.means w) (subst (λ m. IsFinished m turn cs rs) w.means f)) has)

pub said_behind : (a : Algorithm) (m : Meaning Own) (turn : Turn Own) (cs : List Command) (rs : List Reply)
    → Within a m turn cs rs → IsFinished m turn cs rs → a.core.text.items ≡ text_after m turn
said_behind a m turn cs rs w f =
    subst (λ m. a.core.text.items ≡ text_after m turn) (sym w.means)
    (said w.setup a turn (finished w.setup a turn cs rs
    (subst (λ m. Within a m turn cs rs) w.means w) (subst (λ m. IsFinished m turn cs rs) w.means f)))

pub rests_idle : (a : Algorithm) (m : Meaning Own) (s : State Own) (t : ℕ)
    → Between a m s [] → IsMet t [] s → m.is_close t ≡ false → moment_of m t [] s ≡ rests s
rests_idle a m s t b met none =
    subst (λ m. moment_of m t [] s ≡ rests s) (sym b.means)
    (rests-between b.setup a s t (subst (λ m. Between a m s []) b.means b) met (subst (λ m. m.is_close t ≡ false) b.means none))
