use Rattle.std.proofs.Common.{◌≡◌, ◌+◌, ◌&&◌, nat_le, drop}
use Rattle.std.specs.List.{prefix_len}
use Rattle.rule_lang.proofs.scan.run.Given as goal

abbrev pub invariant-loop-i : goal.invariant-loop-i
invariant-loop-i l =
    prefix_len (λ b. nat_le l.low b && nat_le b l.high) l.text ≡ l.i + prefix_len (λ b. nat_le l.low b && nat_le b l.high) (drop l.i l.text)
