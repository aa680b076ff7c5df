-- What was read of the file says what it gives.
use Rattle.std.proofs.Common.{subst}
use Rattle.lean_io.specs.declared.transfer.Whole.TheVariants.{Missing, Large}
use Rattle.lean_io.specs.Whole.{IsReading}
use Rattle.lean_top.specs.HoursRead.{most_hours}
use Rattle.lean_top.proofs.HoursLemmas.{hours_missing, hours_large}
use Rattle.lean_top.proofs.hours.hours_in.Goals as goal

pub returns-in-Missing-clause-told : goal.returns-in-Missing-clause-told
returns-in-Missing-clause-told c =
    λ file is. (let none : IsReading file most_hours Missing = subst (IsReading file most_hours) c.in-Missing.is is in hours_missing file none)

pub returns-in-Large-clause-told : goal.returns-in-Large-clause-told
returns-in-Large-clause-told c =
    λ file is. (let large : IsReading file most_hours Large = subst (IsReading file most_hours) c.in-Large.is is in hours_large file large.0 large.1 large.2)
