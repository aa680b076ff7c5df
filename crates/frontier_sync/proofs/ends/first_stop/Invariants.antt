use Rattle.std.proofs.Common.{◌≡◌, drop}
use Rattle.std.specs.List.{find}
use Rattle.frontier_sync.specs.Heads.{stops}
use Rattle.frontier_sync.proofs.ends.first_stop.Given as goal

abbrev pub invariant-loop-head : goal.invariant-loop-head
invariant-loop-head l = find (λ a. stops a.item) l.heads ≡ find (λ a. stops a.item) (drop l.head-index l.heads)
