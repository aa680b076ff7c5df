-- A search that goes day by day.
use Rattle.std.proofs.Common.{ℕ, ℤ, pos, negsuc, Option, option_map, ◌<ℤ◌, ◌≤ℤ◌, refl, ◌+◌, ◌<◌, ◌≤◌, max, Some, None, inl, inr, arith}
use Rattle.std.proofs.lemmas.Int.{ints}
use Rattle.std.proofs.lemmas.Bool.{cases_lt}
use Rattle.lean_fixed.specs.declared.time.Moment.{Moment}
use Rattle.lean_fixed.specs.Moments.{minutes_per_day}
use Rattle.exchange_hours.specs.Sessions.{moment, end_of_days}
use Rattle.exchange_hours.specs.Next.{IsNext, IsNextFrom, IsNearest}

-- what lies past `after` lies past the beginning of the day in hand: the day's least is the least of all
pub next_on_day : (P : ℕ → Type 0) (after midnight until next : ℕ) → ((t : ℕ) → P t → after < t → midnight < t) → IsNextFrom P (max after midnight) (midnight + minutes_per_day) (Some next) → next ≤ until
    → IsNextFrom P after until (Some next)
next_on_day P after midnight until next ahead found within =
    (found.0, omega (arith, found.1), within, λ u p past. found.3 u p (omega (arith, ahead u p past)))

pub next_past : (P : ℕ → Type 0) (after midnight until next : ℕ) → ((t : ℕ) → P t → after < t → midnight < t) → IsNextFrom P (max after midnight) (midnight + minutes_per_day) (Some next) → until < next
    → IsNextFrom P after until None
next_past P after midnight until next ahead found beyond t p past within =
    omega (arith, found.3 t p (omega (arith, ahead t p past)))

-- nothing is on the day in hand, so what is left lies past its end
pub next_later : (P : ℕ → Type 0) (after midnight : ℕ) → ((t : ℕ) → P t → after < t → midnight < t) → IsNextFrom P (max after midnight) (midnight + minutes_per_day) None
    → (t : ℕ) → P t → after < t → midnight + minutes_per_day < t
next_later P after midnight ahead none t p past =
    elim (cases_lt (midnight + minutes_per_day) t) [ inl later ↦ later | inr within ↦ absurd (none t p (omega (arith, ahead t p past)) within) ]

abbrev Lies : ℕ → Type 0
Lies t = (0 < t) × (t ≤ end_of_days)

later_than : (z : ℤ) (n t : ℕ) → IsNearest z n → Lies t → z <ℤ pos t → n < t
later_than (pos m) n t is lies past = omega (arith, ints)
later_than (negsuc m) n t is lies past = omega (arith, ints)

is_later : (z : ℤ) (n t : ℕ) → IsNearest z n → Lies t → n < t → z <ℤ pos t
is_later (pos m) n t is lies past = omega (arith, ints)
is_later (negsuc m) n t is lies past = omega (arith, ints)

at_most : (z : ℤ) (n t : ℕ) → IsNearest z n → Lies t → pos t ≤ℤ z → t ≤ n
at_most (pos m) n t is lies past = omega (arith, ints)
at_most (negsuc m) n t is lies past = omega (arith, ints)

is_at_most : (z : ℤ) (n t : ℕ) → IsNearest z n → Lies t → t ≤ n → pos t ≤ℤ z
is_at_most (pos m) n t is lies past = omega (arith, ints)
is_at_most (negsuc m) n t is lies past = omega (arith, ints)

-- the same search between any two moments, since none is found before 1970 or after the last day
pub next_from_nearest : (P : ℕ → Type 0) (after until : ℤ) (a u : ℕ) (found : Option ℕ) → ((t : ℕ) → P t → (0 < t) × (t ≤ end_of_days)) → IsNearest after a → IsNearest until u → IsNextFrom P a u found
    → IsNext P after until (option_map moment found)
next_from_nearest P after until a u None lies from to none =
    λ t p past within. none t p (later_than after a t from (lies t p) past) (at_most until u t to (lies t p) within)
next_from_nearest P after until a u (Some next) lies from to (p, past, within, least) = (
  next,
  refl,
  p,
  is_later after a next from (lies next p) past,
  is_at_most until u next to (lies next p) within,
  λ t q later. least t q (later_than after a t from (lies t q) later),
)

-- the least of the same moments
pub next_of_same : (P Q : ℕ → Type 0) (after until : ℤ) (found : Option Moment) → ((t : ℕ) → P t → Q t) → ((t : ℕ) → Q t → P t) → IsNext P after until found → IsNext Q after until found
next_of_same P Q after until None to from none = λ t q. none t (from t q)
next_of_same P Q after until (Some next) to from (t, is, p, past, within, least) =
    (t, is, to t p, past, within, λ u q. least u (from u q))
