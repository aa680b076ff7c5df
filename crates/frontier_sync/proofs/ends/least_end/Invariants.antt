use Rattle.std.proofs.Common.{take}
use Rattle.frontier_sync.specs.Heads.{IsFrontier}
use Rattle.frontier_sync.proofs.ends.least_end.Given as goal

abbrev pub invariant-loop-head : goal.invariant-loop-head
invariant-loop-head l = IsFrontier (take l.head-index l.heads) l.least
