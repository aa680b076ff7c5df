-- What the heads of some securities say of the next steps of their tape.
use Rattle.std.specs.Prelude.{◌≡◌, ℕ, ◌+◌, ◌<◌, ◌≤◌, ◌==◌, if◌then◌else◌, List, [], ◌∷◌, ◌++◌, flat_map, length}
use Rattle.std.specs.List.{AllByRecursion}
use Rattle.lean_fixed.specs.Calendar.{last_day}
use Rattle.daily_tape.specs.declared.head.Head.{Head}
use Rattle.daily_tape.specs.declared.head.Head.TheVariants.{Row, Bad, Faulted, End}
use Rattle.daily_tape.specs.declared.next.Next.{Next}
use Rattle.daily_tape.specs.declared.next.Next.TheVariants.{Step, Stop, End as NoMore}
use Rattle.daily_tape.specs.declared.source.Source.{Source}
use Rattle.daily_tape.specs.DailyTape.{TapeRow, step_of}
use Rattle.daily_tape.specs.Head.{StandsPast}

-- the row that is the head, where it stands at this step
abbrev pub row_at : ℕ → List ℕ → Head → List TapeRow
row_at step symbol (Row daily) = if step_of daily.row == step then (symbol, daily.row) ∷ [] else []
row_at step symbol _ = []

-- the head is a row that stands at this step or a later one, or the file is at its end
abbrev pub IsAhead : ℕ → Head → Type 0
IsAhead step (Row daily) = step ≤ step_of daily.row
IsAhead step End = Unit {0}
IsAhead step _ = ⊥

-- the head ends the tape
abbrev pub Stops : Head → Type 0
Stops (Bad bad) = Unit {0}
Stops Faulted = Unit {0}
Stops _ = ⊥

-- the step that is next is a later one
abbrev pub IsLater : ℕ → Next → Type 0
IsLater k (Step step) = k < step
IsLater k _ = Unit {0}

module _ {H : Type 0} where
  abbrev pub rows_now : ℕ → Source H → List TapeRow
  rows_now step source = row_at step source.symbol source.head

  -- the rows of a step, security by security
  abbrev pub all_rows_now : ℕ → List (Source H) → List TapeRow
  all_rows_now step sources = flat_map (rows_now step) sources

  abbrev pub AllPast : ℕ → List (Source H) → Type 0
  AllPast step sources = AllByRecursion (λ source. StandsPast step source.head) sources

  abbrev pub AllAhead : ℕ → List (Source H) → Type 0
  AllAhead step sources = AllByRecursion (λ source. IsAhead step source.head) sources

  -- the first of the sources whose head ends the tape stands at a place
  pub record IsFirstStop (sources : List (Source H)) (place : ℕ) : Type 0 where
    pub before : List (Source H)
    pub source : Source H
    pub after : List (Source H)
    pub is : sources ≡ before ++ source ∷ after
    pub counted : length before ≡ place
    pub ahead : AllAhead 0 before
    pub stops : Stops source.head

  -- a step before which no row is left, the first head that ends the tape, or the end of all files
  abbrev pub IsNext : List (Source H) → Next → Type 0
  IsNext sources (Step step) = AllAhead step sources × (step ≤ last_day + 1)
  IsNext sources (Stop place) = IsFirstStop sources place
  IsNext sources NoMore = AllAhead (last_day + 2) sources
