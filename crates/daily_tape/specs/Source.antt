-- What is still to come of a security, and what holds of it between two steps of the tape.
use Rattle.std.specs.Prelude.{◌≡◌, ℕ, ◌<◌, Bool, true, nat_le, List, [], ◌∷◌, ◌++◌, Option, Some}
use Rattle.std.specs.List.{list_all}
use Rattle.lean_io.specs.Told.{Files}
use Rattle.line_source.specs.Reader.{hand_of, number_of, lines_left}
use Rattle.equity_csv.specs.declared.row.Row.{Row}
use Rattle.daily_tape.specs.declared.source.Source.{Source}
use Rattle.daily_tape.specs.DailyFile.{Sheet}
use Rattle.daily_tape.specs.DailyTape.{Security, step_of}
use Rattle.daily_tape.specs.Head.{still_to_come, IfKnown, MayGoOn, HasCause}

-- each row stands at a later step than the one before it, and the first at a later one than this
abbrev pub Rises : ℕ → List Row → Type 0
Rises step [] = Unit {0}
Rises step (row ∷ rows) = (step < step_of row) × Rises (step_of row) rows

-- What is left of a sheet past a step: the rows that are not left stand up to it, and those that are left rise from it.
pub record Leaves (step : ℕ) (sheet left : Sheet) : Type 0 where
  pub past : List Row
  pub rows : sheet.rows ≡ past ++ left.rows
  pub stop : sheet.stop ≡ left.stop
  pub passed : list_all (λ row. nat_le (step_of row) step) past ≡ true
  pub rises : Rises step left.rows

module _ {H : Type 0} where
  -- what is still to come, where `rest` is what a hand has not read
  abbrev pub to_come : (H → List ℕ) → Source H → Sheet
  to_come rest source = still_to_come source.head (lines_left rest source.lines)

  -- whatever is told: the next row can be read behind the head, and a failed read was counted
  pub record IsSound (is_open : H → Bool) (faults : H → ℕ) (source : Source H) : Type 0 where
    pub goes_on : MayGoOn (is_open (hand_of source.lines)) (number_of source.lines) source.head
    pub cause : HasCause 0 (faults (hand_of source.lines)) source.head

  -- where the files are told: but for a failed read, what is left of the security's sheet is still to come
  pub record Follows (files : H → Option Files) (rest : H → List ℕ) (f : Files) (step : ℕ) (security : Security) (source : Source H) : Type 0 where
    pub symbol : source.symbol ≡ security.symbol
    pub told : files (hand_of source.lines) ≡ Some f
    pub known : IfKnown source.head (Leaves step security.sheet (to_come rest source))
