-- Which of some rooms is picked.
use Rattle.std.specs.Prelude.{ℕ, ◌<◌, ◌≤◌, List, length, slice_index_or}

-- the greatest room, which is not 0, and the first of those that are as great
pub record IsPick (rooms : List ℕ) (place : ℕ) : Type 0 where
  pub within : place < length rooms
  pub some : 0 < slice_index_or rooms place 0
  pub greatest : (other : ℕ) → other < length rooms → slice_index_or rooms other 0 ≤ slice_index_or rooms place 0
  pub least : (other : ℕ) → other < place → slice_index_or rooms other 0 < slice_index_or rooms place 0
