use Rattle.std.proofs.Common.{ap, sym, ◌∙◌, map}
use Rattle.rule_lang.specs.declared.view.View.{View}
use Rattle.rule_lang.specs.Values.{truth_in}
use Rattle.clock_run.specs.Histories.{closes}
use Rattle.backtest_core.specs.Asking.{view_with, value_at}
use Rattle.backtest_core.proofs.LiveLemmas.{on_ok}
use Rattle.backtest_core.proofs.AskLemmas.{asks-nothing, asks-all}
use Rattle.backtest_core.proofs.asking.ask_of.Goals as goal

pub returns-then-not-truth-clause-asks : goal.returns-then-not-truth-clause-asks
returns-then-not-truth-clause-asks c = λ t seen h bar sees is stands symbol finds.
    asks-nothing seen t h bar c.args.facts.now c.args.security.now.following.windows.specs c.args.places.now c.args.rule.now c.args.out.now.items is finds
    (ap (λ (v : View). truth_in v c.args.rule.now.when)
    (sym (c.in_ok-fill.ensures.view (closes h) stands
    ∙ ap (λ ps. view_with c.args.facts.now (map (value_at (closes h) c.args.security.now.following.windows.specs) ps)) c.deref.ensures.value))
    ∙ sym c.truth.ensures ∙ c.if-not-truth.true)

pub returns-clause-asks : goal.returns-clause-asks
returns-clause-asks c =
    on_ok c.requests.result
    (λ is t seen h bar sees facts stands symbol finds.
    asks-all seen t h bar c.args.facts.now c.args.security.now.following.windows.specs c.args.places.now c.args.rule.now c.args.out.now.items
    c.requests.new.out.items c.args.security.now.symbol _ _ _ is symbol (c.orders_of.ensures seen sees)
    (c.in_ok-fill_others.ensures.views (closes h) stands)
    (c.in_ok-fill.ensures.view (closes h) stands
    ∙ ap (λ ps. view_with c.args.facts.now (map (value_at (closes h) c.args.security.now.following.windows.specs) ps)) c.deref.ensures.value)
    facts finds)
    c.requests.ensures.ok
