-- Counts that stand still at their last value, as those of faults.
use Rattle.std.specs.Prelude.{ℕ, ◌+◌, ◌-◌, ◌^◌, ◌≤◌, min}

-- a count after more was added to it, which stands still at its last value
abbrev pub raised : ℕ → ℕ → ℕ
raised count more = min (count + more) (2 ^ 64 - 1)

-- a count rose in a call, or stands at its last value
abbrev pub Rose : ℕ → ℕ → Type 0
Rose before now = min (before + 1) (2 ^ 64 - 1) ≤ now
