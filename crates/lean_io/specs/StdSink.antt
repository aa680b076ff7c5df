-- The state of standard output, and which answers of the system to a write are faults.
use Rattle.std.specs.Prelude.{◌≡◌, ℕ, ◌<◌, Result, Ok, Err}

-- standard output: how many writes were asked of it, and how many faults were met
pub record OutputState : Type 0 where
  pub writes : ℕ
  pub faults : ℕ

-- standard output before the first write
abbrev pub no_writes : OutputState
no_writes = record { writes = 0; faults = 0 }

-- the system's answer to a write of a piece of this length is a fault: an error, or that it took nothing
-- of a piece that is not empty, which would be tried again for ever
abbrev pub IsFault : {E : Type 0} → ℕ → Result ℕ E → Type 0
IsFault length (Err _) = Unit {0}
IsFault length (Ok n) = (n ≡ 0) × (0 < length)
