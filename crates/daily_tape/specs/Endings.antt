-- How the rows of a tape end.
use Rattle.std.specs.Prelude.{◌≡◌, ℕ, ◌⊎◌, List, [], ◌∷◌, length, Option, Some, None}
use Rattle.daily_tape.specs.declared.ending.Ending.{Ending}
use Rattle.daily_tape.specs.declared.ending.Ending.TheVariants.{Whole, Stopped}
use Rattle.daily_tape.specs.declared.head.Head.{Head}
use Rattle.daily_tape.specs.declared.head.Head.TheVariants.{Row, Bad, Faulted, End}
use Rattle.daily_tape.specs.declared.source.Source.{Source}
use Rattle.lean_io.specs.Told.{Rose}
use Rattle.line_source.specs.Reader.{hand_of}
use Rattle.report_pages.specs.declared.ended.Ended.{Ended}
use Rattle.report_pages.specs.declared.ended.Ended.TheVariants.{Done, BadRow, ReadFault}
use Rattle.report_pages.specs.Ended.{ended_by}
use Rattle.daily_tape.specs.Whole.{IsWhole}
use Rattle.daily_tape.specs.DailyTape.{Security, TapeRow, refusal, tape, tape_text, refusal_line, tape_bytes}
use Rattle.report_pages.specs.Lines.{end_line}
use Rattle.report_pages.specs.Printed.{IsPrinted, IsTaken, IsFront}
use Rattle.daily_tape.specs.Steps.{IsFirstStop}

-- What was printed before the head that ends the tape: all rows of it, where the head is a malformed line, and those of
-- whole steps, where it is a failed read.
abbrev pub EndsAt : List Security → List TapeRow → List ℕ → Head → Type 0
EndsAt all rows symbol (Bad bad) = tape all ≡ record { lines = rows; state = tt; stop = Some (refusal symbol bad) }
EndsAt all rows symbol Faulted = IsWhole all rows
EndsAt all rows symbol (Row daily) = ⊥
EndsAt all rows symbol End = ⊥

-- what is printed behind the last row, and how the tape ends
abbrev pub IsLastAt : List ℕ → Head → Ended → List ℕ → Type 0
IsLastAt symbol (Bad bad) ended last = (ended ≡ BadRow) × (last ≡ refusal_line (refusal symbol bad))
IsLastAt symbol Faulted ended last = (ended ≡ ReadFault) × (last ≡ [])
IsLastAt symbol (Row daily) ended last = ⊥
IsLastAt symbol End ended last = ⊥

module _ {H : Type 0} where
  abbrev pub HasStopped : List (Source H) → Ending → Type 0
  HasStopped sources (Whole rows) = Unit {0}
  HasStopped sources (Stopped place) = IsFirstStop sources place

  abbrev pub EndsSo : List Security → List (Source H) → List TapeRow → Ending → Type 0
  EndsSo all sources rows (Whole count) =
      (tape all ≡ record { lines = rows; state = tt; stop = None }) × (count ≡ length rows)
  EndsSo all sources rows (Stopped place) =
      (stop : IsFirstStop sources place) → EndsAt all rows stop.source.symbol stop.source.head

  -- the rows that were printed behind a page, and what ended them
  pub record IsTape (all : List Security) (sources : List (Source H)) (before after : Option (List ℕ)) (page new : List ℕ) (ending : Ending) : Type 0 where
    pub rows : List TapeRow
    pub printed : IsPrinted before after page new (tape_text rows)
    pub ends : EndsSo all sources rows ending

  abbrev pub IsLast : List (Source H) → Ending → Ended → List ℕ → Type 0
  IsLast sources (Whole rows) ended last = (ended ≡ Done) × (last ≡ end_line rows)
  IsLast sources (Stopped place) ended last =
      (stop : IsFirstStop sources place) × IsLastAt stop.source.symbol stop.source.head ended last

  -- the hand of one of the sources counted a fault, where it began with none
  abbrev pub HasFaulted : (H → ℕ) → List (Source H) → Type 0
  HasFaulted faults [] = ⊥
  HasFaulted faults (source ∷ sources) = Rose 0 (faults (hand_of source.lines)) ⊎ HasFaulted faults sources

-- What the sink took of a tape that ended by itself: all of it, or after a failed read the rows of whole days.
abbrev pub IsReport : List Security → Option (List ℕ) → Option (List ℕ) → Ended → Type 0
IsReport all before after ReadFault = (rows : List TapeRow) × IsWhole all rows × IsTaken before after (tape_text rows)
IsReport all before after ended = (ended ≡ ended_by (tape all).stop) × IsTaken before after (tape_bytes (tape all))

-- of one that was cut short: a front of it
abbrev pub IsReportFront : List Security → Option (List ℕ) → Option (List ℕ) → Type 0
IsReportFront all before after = IsFront before after (tape_bytes (tape all))
