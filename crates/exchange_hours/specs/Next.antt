-- The least of some moments.
use Rattle.std.specs.Prelude.{ℕ, ◌<◌, ◌≤◌, ◌≡◌, min, ℤ, pos, negsuc, ◌≤ℤ◌, ◌<ℤ◌, Option, Some, None}
use Rattle.exchange_hours.specs.Sessions.{end_of_days}
use Rattle.lean_fixed.specs.declared.time.Moment.{Moment}

-- the least of some moments that lies past one moment and not past another, or nothing where there is none
abbrev pub IsNext : (ℕ → Type 0) → ℤ → ℤ → Option Moment → Type 0
IsNext P after until None = (t : ℕ) → P t → after <ℤ pos t → ¬ (pos t ≤ℤ until)
IsNext P after until (Some next) =
    (t : ℕ) × (next.0 ≡ pos t) × P t × (after <ℤ pos t) × (pos t ≤ℤ until)
    × ((u : ℕ) → P u → after <ℤ pos u → t ≤ u)

-- the same of moments from 1970 on
abbrev pub IsNextFrom : (ℕ → Type 0) → ℕ → ℕ → Option ℕ → Type 0
IsNextFrom P after until None = (t : ℕ) → P t → after < t → ¬ (t ≤ until)
IsNextFrom P after until (Some next) =
    P next × (after < next) × (next ≤ until) × ((u : ℕ) → P u → after < u → next ≤ u)

-- the moment itself, or the nearest one from 1970 to 24:00 of the last day
abbrev pub IsNearest : ℤ → ℕ → Type 0
IsNearest (pos t) minute = minute ≡ min t end_of_days
IsNearest (negsuc _) minute = minute ≡ 0
