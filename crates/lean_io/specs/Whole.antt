-- What the reading of a whole file says of it.
use Rattle.std.specs.Prelude.{◌≡◌, ℕ, ◌<◌, ◌≤◌, List, length, Option, Some, None}
use Rattle.lean_io.specs.declared.transfer.Whole.{Whole}
use Rattle.lean_io.specs.declared.transfer.Whole.TheVariants.{Text, Missing, Large, Faulted}
use Rattle.lean_io.specs.Told.{Rose}

-- what a reading of at most `most` bytes says, where `file` is the file's bytes, or nothing where there is none
abbrev pub IsReading : Option (List ℕ) → ℕ → Whole → Type 0
IsReading file most (Text text) = (file ≡ Some text.items) × (length text.items ≤ most)
IsReading file most Missing = file ≡ None
IsReading file most Large = (bytes : List ℕ) × (file ≡ Some bytes) × (most < length bytes)
IsReading file most Faulted = Unit {0}

-- a reading is given up only where the hand's count of faults rose, or stands at its last value
abbrev pub HasCause : ℕ → ℕ → Whole → Type 0
HasCause before now Faulted = Rose before now
HasCause before now _ = Unit {0}
