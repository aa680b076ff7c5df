-- What the bytes of an hours file give.
use Rattle.std.proofs.Common.{◌≡◌, ℕ, ◌<◌, ◌≤◌, true, false, List, Option, Some, None, refl, arith}
use Rattle.std.specs.Prelude.{nat_lt, codes, length, Result, Ok, Err}
use Rattle.std.proofs.lemmas.Bool.Decides.{nat_tests}
use Rattle.exchange_hours.specs.declared.fault.HoursFault.{HoursFault}
use Rattle.exchange_hours.specs.declared.fault.HoursFault.TheVariants.{Json, NoEntry, DayForm, TimeForm, Holiday, EarlyClose, NoMemory}
use Rattle.exchange_hours.specs.Entries.{Entries}
use Rattle.exchange_hours.specs.HoursFile.{hours_of, us_equities, IsFault}
use Rattle.lean_top.specs.HoursRead.{most_hours, or_word, hours_in}
use Rattle.lean_top.specs.HoursGiven.{IsWordOf}

in_bounds : (bytes : List ℕ) → length bytes ≤ most_hours → nat_lt most_hours (length bytes) ≡ false
in_bounds bytes le = grind (arith, nat_tests)

past_bounds : (bytes : List ℕ) → most_hours < length bytes → nat_lt most_hours (length bytes) ≡ true
past_bounds bytes lt = grind (arith, nat_tests)

pub hours_are : (bytes : List ℕ) (hours : Entries) → length bytes ≤ most_hours → hours_of us_equities bytes ≡ Ok hours → hours_in (Some bytes) ≡ Ok hours
unfolding hours_in
hours_are bytes hours le is = rw (in_bounds bytes le, is) refl

refused_word : (answer : Result Entries HoursFault) (fault : HoursFault) (word : List ℕ) → IsFault answer fault → IsWordOf fault word → or_word answer ≡ Err word
refused_word answer Json word is named = rw (is, named) refl
refused_word answer NoEntry word is named = rw (is, named) refl
refused_word answer DayForm word is named = rw (is, named) refl
refused_word answer TimeForm word is named = rw (is, named) refl
refused_word answer Holiday word is named = rw (is, named) refl
refused_word answer EarlyClose word is named = rw (is, named) refl
refused_word answer NoMemory word is named = absurd named

pub hours_refused : (bytes : List ℕ) (fault : HoursFault) (word : List ℕ) → length bytes ≤ most_hours → IsFault (hours_of us_equities bytes) fault → IsWordOf fault word
    → hours_in (Some bytes) ≡ Err word
unfolding hours_in
hours_refused bytes fault word le is named = rw (in_bounds bytes le) (refused_word (hours_of us_equities bytes) fault word is named)

pub hours_missing : (file : Option (List ℕ)) → file ≡ None → hours_in file ≡ Err (codes "missing file")
unfolding hours_in
hours_missing file none = rw none refl

pub hours_large : (file : Option (List ℕ)) (bytes : List ℕ) → file ≡ Some bytes → most_hours < length bytes → hours_in file ≡ Err (codes "large")
unfolding hours_in
hours_large file bytes some lt = rw (some, past_bounds bytes lt) refl
