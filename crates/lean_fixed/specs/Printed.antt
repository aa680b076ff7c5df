-- The texts that reports are made of.
use Rattle.std.specs.Prelude.{ℕ, ◌+◌, ◌/◌, ◌%◌, Bool, ℤ, unsigned_abs, List, [], ◌∷◌, ◌++◌, decimal}
use Rattle.std.specs.Fmt.{sign_text}
use Rattle.std.specs.Int.{is_negative}
use Rattle.lean_fixed.specs.Calendar.{Civil, civil_of}
use Rattle.lean_fixed.specs.Moments.{day_of, minute_of_day}

-- the last two and the last four decimal digits of a number, with their leading zeros
abbrev pub two_digits : ℕ → List ℕ
two_digits n = (48 + n / 10 % 10) ∷ (48 + n % 10) ∷ []

abbrev pub four_digits : ℕ → List ℕ
four_digits n = two_digits (n / 100) ++ two_digits n

-- whole dollars, a point and the last four digits of a number, with '-' before them where they are negative
abbrev pub dollars_text : Bool → ℕ → ℕ → List ℕ
dollars_text negative dollars places = sign_text negative ++ (decimal dollars ++ 46 ∷ four_digits places)

-- a number of 1/10000 dollar: the whole dollars, a point and four digits
unfoldable pub units_text : ℕ → List ℕ
units_text n = decimal (n / 10000) ++ 46 ∷ four_digits n

-- the same with '-' before it where it is negative: a price or money
unfoldable pub money_text : ℤ → List ℕ
money_text units = sign_text (is_negative units) ++ units_text (unsigned_abs units)

-- yyyyMMdd
abbrev pub date_text : Civil → List ℕ
date_text date = four_digits date.year ++ two_digits date.month ++ two_digits date.day

-- the date of a day
unfoldable pub day_text : ℕ → List ℕ
day_text day = date_text (civil_of day)

-- the day of a moment, a space, and HH:mm
unfoldable pub moment_text : ℕ → List ℕ
moment_text moment =
    day_text (day_of moment) ++ 32 ∷ two_digits (minute_of_day moment / 60) ++ 58 ∷ two_digits (minute_of_day moment % 60)
