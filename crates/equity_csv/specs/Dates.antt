-- What is kept of the last date that was read.
use Rattle.std.specs.Prelude.{◌≡◌, ℕ, pos, List, Option, Some, option_map}
use Rattle.lean_fixed.specs.declared.time.Day.{Day}
use Rattle.lean_fixed.specs.Calendar.{day_of_digits}

-- the day that eight digits spell
unfoldable pub day_spelled : List ℕ → Option Day
day_spelled digits = option_map (λ n. record { 0 = pos n }) (day_of_digits digits)

abbrev pub Spells : List ℕ → Day → Type 0
Spells digits day = day_spelled digits ≡ Some day
