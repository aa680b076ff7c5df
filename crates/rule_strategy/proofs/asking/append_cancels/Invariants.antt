use Rattle.std.proofs.Common.{◌≡◌, ◌+◌, ◌≤◌, ◌++◌, drop, length, vec_len, vec_capacity}
use Rattle.rule_strategy.specs.Asked.{cancels}
use Rattle.rule_strategy.proofs.asking.append_cancels.Given as goal

abbrev pub invariant-loop-order : goal.invariant-loop-order
invariant-loop-order l =
    (l.fn.out.items ++ cancels l.at l.fn.live ≡ l.out.items ++ cancels l.at (drop l.order-index l.fn.live))
    × (vec_len l.out + length (drop l.order-index l.fn.live) ≤ vec_capacity l.out)
