-- What is written behind a place.
use Rattle.std.specs.Prelude.{◌≡◌, ℕ, ◌+◌, List, ◌++◌, length, take}

-- A text was written behind a place of a line, up to another place. What stands before it stays.
pub record IsAdded (text : List ℕ) (place : ℕ) (old new : List ℕ) (behind : ℕ) : Type 0 where
  pub end : behind ≡ place + length text
  pub size : length new ≡ length old
  pub written : take behind new ≡ take place old ++ text
