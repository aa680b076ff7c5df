-- What a reading of the hours file gave.
use Rattle.std.specs.Prelude.{◌≡◌, ℕ, List, Option, Ok, Err}
use Rattle.lean_fixed.specs.Counts.{Rose}
use Rattle.exchange_hours.specs.declared.fault.HoursFault.{HoursFault}
use Rattle.exchange_hours.specs.declared.fault.HoursFault.TheVariants.{NoMemory}
use Rattle.lean_top.specs.declared.hours.HoursRead.{HoursRead}
use Rattle.lean_top.specs.declared.hours.HoursRead.TheVariants.{Read, Refused, Faulted}
use Rattle.lean_top.specs.HoursRead.{fault_word, hours_in}

-- the hours in the bytes of the file, or the words that refuse it, where `file` is its bytes or nothing
abbrev pub GivesHours : Option (List ℕ) → HoursRead → Type 0
GivesHours file (Read hours) = hours_in file ≡ Ok hours
GivesHours file (Refused word) = hours_in file ≡ Err word.now
GivesHours file Faulted = Unit {0}

-- a reading fails only where the count of faults rose
abbrev pub HasHoursCause : ℕ → ℕ → HoursRead → Type 0
HasHoursCause before now Faulted = Rose before now
HasHoursCause before now (Read hours) = Unit {0}
HasHoursCause before now (Refused word) = Unit {0}

-- the word for a fault of the file, and not for want of memory
abbrev pub IsWordOf : HoursFault → List ℕ → Type 0
IsWordOf NoMemory word = ⊥
IsWordOf fault word = word ≡ fault_word fault
