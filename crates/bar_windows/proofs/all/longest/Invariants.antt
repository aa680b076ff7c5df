use Rattle.std.proofs.Common.{◌≤◌, take, All}
use Rattle.bar_windows.specs.Kept.{reach_of}
use Rattle.bar_windows.proofs.all.longest.Given as goal

abbrev pub invariant-loop-spec : goal.invariant-loop-spec
invariant-loop-spec l = All (λ spec. reach_of spec ≤ l.most) (take l.spec-index l.specs)
