-- A report that walks steps in order, as the minutes or the days of a run. Each step has the state that the step before it
-- left; it prints its lines, leaves a state, and may stop the run.
use Rattle.std.specs.Prelude.{◌≡◌, ℕ, zero, suc, ◌+◌, ◌-◌, ◌<◌, ◌≤◌, List, [], ◌++◌, Option, Some, None}

-- what some steps printed, the state that they left, and the stop at which they ended, where they did
pub record Ran (S L Z : Type 0) : Type 0 where
  pub lines : List L
  pub state : S
  pub stop : Option Z

module _ {S L Z : Type 0} where
  -- nothing happened
  abbrev pub rests : S → Ran S L Z
  rests s = record { lines = []; state = s; stop = None }

  -- what was run behind lines that were printed before
  abbrev pub behind : List L → Ran S L Z → Ran S L Z
  behind lines later = record { lines = lines ++ later.lines; state = later.state; stop = later.stop }

  -- lines, a state and perhaps a stop, and then what is run from that state on where there was no stop
  abbrev pub then_on : List L → S → Option Z → (S → Ran S L Z) → Ran S L Z
  then_on lines s (Some z) later = record { lines = lines; state = s; stop = Some z }
  then_on lines s None later = behind lines (later s)

  abbrev pub before : Ran S L Z → (S → Ran S L Z) → Ran S L Z
  before first later = then_on first.lines first.state first.stop later

module _ {S L Z : Type 0} (step : ℕ → S → Ran S L Z) where
  -- so many steps, from step `from` on
  unfoldable pub run : ℕ → ℕ → S → Ran S L Z
  run zero from s = rests s
  run (suc n) from s = before (step from s) (run n (from + 1))

  -- the steps from one to another, both included
  abbrev pub run_to : ℕ → ℕ → S → Ran S L Z
  run_to from to s = run (to + 1 - from) from s

  -- nothing happens in that state from step `from` on and before step `until`
  abbrev pub IsStill : S → ℕ → ℕ → Type 0
  IsStill s from until = (t : ℕ) → from ≤ t → t < until → step t s ≡ rests s

-- the first of some lines
pub record IsFrontOf {L : Type 0} (front whole : List L) : Type 0 where
  pub rest : List L
  pub is : whole ≡ front ++ rest
