use Rattle.std.proofs.Common.{◌≡◌, ◌-◌, ◌≤◌, length}
use Rattle.daily_tape.proofs.SourceLemmas.{IsGiven}
use Rattle.daily_tape.proofs.sources.give_back.Given as goal

abbrev pub invariant-sources : goal.invariant-sources
invariant-sources g l =
    IsGiven g.F.H.Hand.faults l.fn.sources.items l.left.items (g.F.Folder.faults l.fn.folder) (g.F.Folder.faults l.folder)
    × (g.F.Folder.faults l.fn.folder ≤ g.F.Folder.faults l.folder)
    × (g.F.Folder.files l.folder ≡ g.F.Folder.files l.fn.folder)
    × (length l.left.items ≤ length l.fn.sources.items)
    × (g.F.Folder.hands l.folder ≡ g.F.Folder.hands l.fn.folder - (length l.fn.sources.items - length l.left.items))

abbrev pub decreases-sources : goal.decreases-sources
decreases-sources g l = length l.left.items
