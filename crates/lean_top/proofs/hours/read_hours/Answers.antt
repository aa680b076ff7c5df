-- The reading is that of the file at the path.
use Rattle.std.specs.Prelude.{◌≡◌, ℕ, List, Option, Some, Result, Ok, Err, IfOk}
use Rattle.lean_io.specs.Told.{Files}
use Rattle.lean_io.specs.declared.transfer.Whole.{Whole}
use Rattle.lean_io.specs.Whole.{IsReading}
use Rattle.lean_fixed.specs.declared.memory.NoMemory.{NoMemory}
use Rattle.lean_top.specs.declared.hours.HoursRead.{HoursRead}
use Rattle.lean_top.specs.HoursRead.{hours_path, most_hours}
use Rattle.lean_top.specs.HoursGiven.{GivesHours}
use Rattle.lean_top.proofs.hours.read_hours.Goals as goal

gives : (r : Result HoursRead NoMemory) (whole : Whole) (told : Option Files)
    → IfOk r (λ read. (file : Option (List ℕ)) → IsReading file most_hours whole → GivesHours file read)
    → ((f : Files) → told ≡ Some f → IsReading (f hours_path) most_hours whole)
    → IfOk r (λ read. (f : Files) → told ≡ Some f → GivesHours (f hours_path) read)
gives (Ok read) whole told h reads = λ f is. h (f hours_path) (reads f is)
gives (Err e) whole told h reads = tt

pub returns-in-Ok-clause-told : goal.returns-in-Ok-clause-told
unfolding hours_path
returns-in-Ok-clause-told g c = gives c.hours_in.result c.in-Ok.whole (g.F.Folder.files c.args.folder.now) c.hours_in.ensures.told c.in-Ok.ensures.told
