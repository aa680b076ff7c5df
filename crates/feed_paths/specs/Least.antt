-- The least of some days.
use Rattle.std.specs.Prelude.{ℕ, ◌+◌, ◌<◌, ◌≤◌, ◌≡◌, max, Bool, true, false, Option, Some, None}

-- the least day that passes a test, from one day on and before another, or nothing where there is none
abbrev pub IsLeast : (ℕ → Bool) → ℕ → ℕ → Option ℕ → Type 0
IsLeast test from end None = (day : ℕ) → from ≤ day → day < end → test day ≡ false
IsLeast test from end (Some least) =
    (test least ≡ true) × (from ≤ least) × (least < end) × ((day : ℕ) → from ≤ day → day < least → test day ≡ false)

-- a day, or the first one past another where that is later
abbrev pub first_past : ℕ → Option ℕ → ℕ
first_past from None = from
first_past from (Some file) = max from (file + 1)
