-- The state of a sink that keeps only what follows the last close line.
use Rattle.std.specs.Prelude.{◌≡◌, ℕ, List, [], ◌++◌, length}
use Rattle.lean_top.specs.CloseTail.{split, lines_behind, text_of}

-- such a sink: all bytes that it took, and how many writes and faults it counted
pub record TailState : Type 0 where
  pub bytes : List ℕ
  pub writes : ℕ
  pub faults : ℕ

-- before the first write
abbrev pub new_tail : TailState
new_tail = record { bytes = []; writes = 0; faults = 0 }

-- what is kept of the bytes that were taken, and the place in it at which the line begins that has no LF yet
pub record KeptState : Type 0 where
  pub bytes : List ℕ
  pub line : ℕ

-- the lines behind the last close line are kept, and what stands behind the last LF
pub record IsKept (taken : List ℕ) (kept : KeptState) : Type 0 where
  pub bytes : kept.bytes ≡ text_of (lines_behind (split taken).lines) ++ (split taken).rest
  pub line : kept.line ≡ length (text_of (lines_behind (split taken).lines))
