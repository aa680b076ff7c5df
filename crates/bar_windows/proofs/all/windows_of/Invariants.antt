use Rattle.std.proofs.Common.{◌≡◌, [], map, take, All}
use Rattle.bar_windows.specs.Kept.{Heard}
use Rattle.bar_windows.specs.Recent.{spec_of}
use Rattle.bar_windows.proofs.all.windows_of.Given as goal

abbrev pub invariant-loop-spec : goal.invariant-loop-spec
invariant-loop-spec l = (map spec_of l.windows.items ≡ take l.spec-index l.specs) × All (Heard []) l.windows.items
