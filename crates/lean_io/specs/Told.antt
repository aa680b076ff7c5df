-- What folders and hands tell, and what a call of theirs says of it.
use Rattle.std.specs.Prelude.{◌≡◌, ℕ, ◌↔◌, ◌⊎◌, Bool, List, [], ◌++◌, take, Option, Some, None, if◌then◌else◌}
pub use Rattle.lean_fixed.specs.Counts.{Rose}

-- the files that a folder or a hand tells: at each path the bytes of its file, or nothing
abbrev pub Files : Type 0
Files = List ℕ → Option (List ℕ)

-- an opening found a file exactly where the path has one, and then its bytes are still to be read
abbrev pub Opened : Files → List ℕ → Bool → List ℕ → Type 0
Opened files path found rest = files path ≡ (if found then Some rest else None)

-- a read moved the first n bytes of the rest to the front of `into`
-- it moved none exactly where nothing is left, or `into` has no room
pub record Reads (n : ℕ) (old new into : List ℕ) : Type 0 where
  pub moved : old ≡ take n into ++ new
  pub ends : (n ≡ 0) ↔ ((old ≡ []) ⊎ (into ≡ []))
