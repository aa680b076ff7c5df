use Rattle.std.proofs.Common.{take}
use Rattle.backtest_core.specs.Tables.{AddsRules}
use Rattle.backtest_core.proofs.table.add_rules.Given as goal

abbrev pub invariant-loop-rule : goal.invariant-loop-rule
invariant-loop-rule l = AddsRules l.fn.specs.items l.specs.items l.out.items (take l.rule-index l.fn.rules)
