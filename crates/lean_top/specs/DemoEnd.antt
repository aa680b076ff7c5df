-- How a demo ends.
use Rattle.std.specs.Prelude.{◌≡◌, ℕ, List, ◌++◌}
use Rattle.lean_top.specs.declared.status.Status.{Status}
use Rattle.lean_top.specs.declared.status.Status.TheVariants.{ReadFault, WriteFault, NoMemory}
use Rattle.lean_top.specs.declared.demo.DemoEnd.{DemoEnd}
use Rattle.lean_top.specs.CloseTail.{behind_close}
use Rattle.lean_top.specs.Report.{made_report}

-- a status with which a report is whole
abbrev pub IsWhole : Status → Type 0
IsWhole ReadFault = ⊥
IsWhole WriteFault = ⊥
IsWhole NoMemory = ⊥
IsWhole _ = Unit {0}

-- what a demo prints behind its line, and its status, are those of the report of the made folder
pub record IsEndOf (number : ℕ) (end : DemoEnd) : Type 0 where
  pub text : end.text.items ≡ behind_close (made_report number).0
  pub status : end.status ≡ (made_report number).1
