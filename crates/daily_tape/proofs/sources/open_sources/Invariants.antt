use Rattle.std.proofs.Common.{◌≡◌, ◌+◌, ◌≤◌, Some, take, length}
use Rattle.std.specs.Prelude.{vec_capacity}
use Rattle.std.specs.List.{AllByRecursion, AllZip}
use Rattle.lean_io.specs.Told.{Files}
use Rattle.daily_tape.specs.DailyTape.{securities}
use Rattle.daily_tape.specs.Source.{IsSound, Follows}
use Rattle.daily_tape.specs.Steps.{AllPast}
use Rattle.daily_tape.proofs.sources.open_sources.Given as goal

abbrev pub invariant-loop-symbol : goal.invariant-loop-symbol
invariant-loop-symbol g l =
    ((f : Files) → g.F.Folder.files l.fn.folder ≡ Some f
    → AllZip (Follows g.F.H.Hand.files g.F.H.Hand.rest f 0) (securities f (take l.symbol-index l.symbols)) l.sources.items)
    × AllByRecursion (IsSound g.F.H.Hand.is_open g.F.H.Hand.faults) l.sources.items
    × AllPast 0 l.sources.items
    × (length l.sources.items ≡ l.symbol-index)
    × (g.F.Folder.files l.folder ≡ g.F.Folder.files l.fn.folder)
    × (g.F.Folder.faults l.folder ≡ g.F.Folder.faults l.fn.folder)
    × (length l.symbols ≤ vec_capacity l.sources)
    × (g.F.Folder.hands l.folder ≡ g.F.Folder.hands l.fn.folder + length l.sources.items)
