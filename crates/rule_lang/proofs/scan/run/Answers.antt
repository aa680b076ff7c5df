use Rattle.std.proofs.Common.{◌&&◌, nat_le, arith}
use Rattle.rule_lang.proofs.Runs.{list_all-front, list_all-whole}
use Rattle.rule_lang.proofs.scan.run.Goals as goal

pub returns-then-byte-low-clause-each : goal.returns-then-byte-low-clause-each
returns-then-byte-low-clause-each c =
    list_all-front (λ b. nat_le c.args.low b && nat_le b c.args.high) c.args.text.now c.loop-i.i (omega (arith, c.loop-i.invariant))

pub returns-clause-each : goal.returns-clause-each
returns-clause-each c =
    list_all-whole (λ b. nat_le c.args.low b && nat_le b c.args.high) c.args.text.now (omega (arith, c.loop-i.invariant))
