use Rattle.std.proofs.Common.{◌++◌, [], cond, ap, sym, ◌∙◌}
use Rattle.rule_strategy.specs.Asked.{requests_of}
use Rattle.clock_run.specs.Requests.{is_for, rule_view, orders_seen}
use Rattle.backtest_core.specs.Asking.{facts_of}
use Rattle.backtest_core.proofs.LiveLemmas.{on_ok}
use Rattle.backtest_core.proofs.asking.ask_with.Goals as goal

pub returns-clause-asks : goal.returns-clause-asks
returns-clause-asks c =
    on_ok c.ask_of.result
    (λ asks t seen h at sees stands symbol finds.
    asks t seen h c.args.bar.now sees
    (c.in_ok-facts.ensures.facts t seen at sees ∙ ap (λ s. facts_of seen t s c.args.bar.now) symbol) stands symbol finds
    ∙ ap (λ b. c.args.out.now.items ++ cond b (requests_of c.args.rule.now h.symbol (rule_view seen t h c.args.bar.now c.args.rule.now) (orders_seen seen h.symbol)) [])
    (sym c.if-not-is_for.false ∙ c.is_for.ensures ∙ ap (is_for c.args.rule.now.symbol) symbol))
    c.ask_of.ensures.asks
