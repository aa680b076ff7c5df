-- The state of a sink in memory, and what a write does to it.
use Rattle.std.specs.Prelude.{◌≡◌, ℕ, ◌-◌, ◌⊎◌, List, [], ◌++◌, Contains, length, take, min}
use Rattle.lean_io.specs.Counts.{raised}

-- a sink in memory: the bytes that it took, how many it takes at a time, how many more it has room for, the numbers of
-- the writes that fail, how many writes were made, those of empty pieces too, and how many faults it met
pub record SinkState : Type 0 where
  pub bytes : List ℕ
  pub most : ℕ
  pub room : ℕ
  pub fails : List ℕ
  pub writes : ℕ
  pub faults : ℕ

-- a new sink
abbrev pub new_sink : ℕ → ℕ → List ℕ → SinkState
new_sink most room fails = record { bytes = []; most = most; room = room; fails = fails; writes = 0; faults = 0 }

-- the next write of a piece that is not empty fails: its number is listed, or no room is left
abbrev pub FailsNext : SinkState → Type 0
FailsNext s = Contains s.fails (raised s.writes 1) ⊎ (s.room ≡ 0)

-- how much of a piece is taken: the piece, what is taken at a time, or what has room, whichever is least
abbrev pub amount : SinkState → List ℕ → ℕ
amount s piece = min (length piece) (min s.most s.room)

-- the sink after it took the first n bytes of a piece
abbrev pub taken : SinkState → ℕ → List ℕ → SinkState
taken s n piece = record s { bytes = s.bytes ++ take n piece; room = s.room - n; writes = raised s.writes 1 }

-- the sink after a write that failed
abbrev pub failed : SinkState → SinkState
failed s = record s { writes = raised s.writes 1; faults = raised s.faults 1 }
