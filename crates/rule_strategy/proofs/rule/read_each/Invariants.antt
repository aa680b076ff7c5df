use Rattle.std.proofs.Common.{◌≡◌, ◌+◌, [], drop}
use Rattle.rule_strategy.specs.Rules.{rules_from}
use Rattle.rule_strategy.proofs.rule.read_each.Given as goal

abbrev pub invariant-loop-place : goal.invariant-loop-place
invariant-loop-place l = rules_from 1 [] l.fn.texts ≡ rules_from (l.place + 1) l.out.items (drop l.place l.fn.texts)
