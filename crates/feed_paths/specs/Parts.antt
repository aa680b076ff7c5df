-- The parts of which a path is made.
use Rattle.std.specs.Prelude.{ℕ, Bool, true, nat_le, List}
use Rattle.lean_fixed.specs.Calendar.{last_day}
use Rattle.lean_fixed.specs.Printed.{day_text}
use Rattle.feed_paths.specs.Paths.{lower}
use Rattle.feed_paths.specs.declared.part.Part.{Part}
use Rattle.feed_paths.specs.declared.part.Part.TheVariants.{Text, Name, Date}

-- what a part adds to a path: the text itself, the symbol in lower case, the eight digits of the day
abbrev pub part_text : Part → List ℕ
part_text (Text text) = text.now
part_text (Name symbol) = lower symbol
part_text (Date day) = day_text day

-- a date has a text on the days that there are
abbrev pub has_text : Part → Bool
has_text (Text text) = true
has_text (Name symbol) = true
has_text (Date day) = nat_le day last_day
