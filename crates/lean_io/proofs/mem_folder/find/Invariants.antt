use Rattle.std.proofs.Common.{◌≡◌, drop}
use Rattle.lean_io.specs.MemFolder.{entry_files}
use Rattle.lean_io.proofs.mem_folder.find.Given as goal

abbrev pub invariant-loop-i : goal.invariant-loop-i
invariant-loop-i l = entry_files l.entries l.path ≡ entry_files (drop l.i l.entries) l.path
