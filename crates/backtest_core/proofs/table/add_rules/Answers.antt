use Rattle.std.proofs.Common.{◌≡◌, ◌+◌, ◌++◌, ◌∷◌, [], ap, sym, subst, ◌∙◌, take}
use Rattle.std.proofs.lemmas.List.{take_more}
use Rattle.rule_strategy.specs.declared.rule.Rule.{Rule}
use Rattle.backtest_core.specs.Tables.{AddsRules}
use Rattle.backtest_core.proofs.TableLemmas.{adds-rules}
use Rattle.backtest_core.proofs.table.add_rules.Goals as goal

pub loop-rule-preserved : goal.loop-rule-preserved
loop-rule-preserved c =
    let more : take (c.loop-rule.rule-index + 1) c.args.rules.now ≡ take c.loop-rule.rule-index c.args.rules.now ++ c.rule-item.result ∷ []
    = take_more c.args.rules.now c.loop-rule.rule-index c.rule-item.result c.loop-rule-test.true
    ∙ ap (λ (rule : Rule). take c.loop-rule.rule-index c.args.rules.now ++ rule ∷ []) (sym c.rule-item.is) in
    subst (λ rules. AddsRules c.args.specs.now.items c.add_rule.new.specs.items c.push.new.self.items rules) (sym more)
    (subst (λ places. AddsRules c.args.specs.now.items c.add_rule.new.specs.items places (take c.loop-rule.rule-index c.args.rules.now ++ c.rule-item.result ∷ []))
    (sym c.in_ok-push.ensures.items)
    (adds-rules _ _ _ _ _ _ c.rule-item.result c.loop-rule.invariant c.in_ok-places.ensures))
