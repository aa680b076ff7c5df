-- What was taken of one feed alone.
use Rattle.std.specs.Prelude.{ℕ, ◌==◌, if◌then◌else◌, Some, None}
use Rattle.lean_items.specs.Taken.{Taken, Feeds}

-- this was taken of one feed, and no other was added
abbrev pub only : ℕ → Taken → Feeds
only k taken = λ n. if n == k then Some taken else None
