use Rattle.std.proofs.Common.{rules, ap, of_z}
use Rattle.std.specs.Int.{w128}
use Rattle.rule_lang.proofs.Numbers.{quotient-is, int_eq-apart}
use Rattle.rule_lang.proofs.value.quotient.Goals as goal

pub returns : goal.returns
returns c = quotient-is c.args.number c.args.divisor c.in_ok-within.field-0 (int_eq-apart c.args.divisor (λ e. c.if-divisor-eq0.false (ap (of_z w128) e))) c.ranges.number c.ranges.divisor (search rules)
