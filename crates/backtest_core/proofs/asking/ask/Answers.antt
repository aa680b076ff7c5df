use Rattle.std.proofs.Common.{◌++◌, ap, sym, ◌∙◌}
use Rattle.universe_state.specs.Active.{Active}
use Rattle.clock_run.specs.Requests.{fresh_requests}
use Rattle.backtest_core.specs.Standing.{history}
use Rattle.backtest_core.proofs.LiveLemmas.{on_ok}
use Rattle.backtest_core.proofs.AskLemmas.{closes-followed}
use Rattle.backtest_core.proofs.asking.ask.Goals as goal

pub returns-in-Some-clause-asks : goal.returns-in-Some-clause-asks
returns-in-Some-clause-asks c =
    on_ok c.ask_with.result
    (λ asks t seen f at sees watches finds.
    asks t seen (history f) at sees (closes-followed t c.args.security.now f watches) (ap (λ (a : Active). a.symbol) watches.watches.active) finds
    ∙ ap (λ bar. c.args.out.now.items ++ fresh_requests c.args.rule.now seen t (history f) bar) (sym c.in-Some.is ∙ watches.fresh))
    c.ask_with.ensures.asks
