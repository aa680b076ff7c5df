-- What whole steps of a tape print: of the first so many.
use Rattle.std.specs.Prelude.{◌≡◌, ℕ, ◌+◌, ◌≤◌, List}
use Rattle.lean_fixed.specs.Calendar.{last_day}
use Rattle.daily_tape.specs.DailyTape.{Security, TapeRow, tape_steps}

-- the rows of the first days
pub record IsWhole (all : List Security) (rows : List TapeRow) : Type 0 where
  pub count : ℕ
  pub small : count ≤ last_day + 2
  pub is : rows ≡ (tape_steps all count).lines
