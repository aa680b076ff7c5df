-- What a call that writes a text into a buffer does to it.
use Rattle.std.specs.Prelude.{◌≡◌, ℕ, ◌+◌, List, ◌++◌, length, take, drop}

-- A text was written at a place of a buffer, and ends before another one. What stands before it and behind it stays.
pub record IsWritten (text : List ℕ) (place : ℕ) (old new : List ℕ) (behind : ℕ) : Type 0 where
  pub end : behind ≡ place + length text
  pub size : length new ≡ length old
  pub written : take behind new ≡ take place old ++ text
  pub rest : drop behind new ≡ drop behind old
