use Rattle.std.proofs.Common.{◌≡◌, ◌+◌, ◌≤◌, ◌++◌, drop, length, vec_len, vec_capacity, Some}
use Rattle.rule_strategy.specs.Asked.{updates}
use Rattle.rule_strategy.proofs.asking.append_each_update.Given as goal

abbrev pub invariant-loop-order : goal.invariant-loop-order
invariant-loop-order l =
    (l.fn.out.items ++ updates l.at (Some l.price.0) l.fn.live
    ≡ l.out.items ++ updates l.at (Some l.price.0) (drop l.order-index l.fn.live))
    × (vec_len l.out + length (drop l.order-index l.fn.live) ≤ vec_capacity l.out)
