-- The numbers with which the program ends.
use Rattle.std.specs.Prelude.{ℕ}
use Rattle.lean_top.specs.declared.status.Status.{Status}
use Rattle.lean_top.specs.declared.status.Status.TheVariants.{Done, Usage, Algorithm, BadRow, ReadFault, WriteFault, NoMemory, Limit}

abbrev pub code_of : Status → ℕ
code_of Done = 0
code_of Usage = 1
code_of Algorithm = 2
code_of BadRow = 3
code_of ReadFault = 4
code_of WriteFault = 5
code_of NoMemory = 6
code_of Limit = 7
