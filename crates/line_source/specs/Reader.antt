-- What a reader of lines holds, and what it gives.
use Rattle.std.specs.Prelude.{◌≡◌, ℕ, ◌+◌, ◌-◌, ◌<◌, ◌≤◌, Bool, true, false, List, [], ◌∷◌, ◌++◌, take, drop, Option, Result, OnOk, OnErr}
use Rattle.lean_io.specs.Told.{Files, Rose}
use Rattle.lean_io.specs.declared.outside.Failed.{Failed}
use Rattle.line_source.specs.declared.raw.Raw.{Raw}
use Rattle.line_source.specs.declared.line.Line.{Line}
use Rattle.line_source.specs.declared.line.Line.TheVariants.{Text, Long, Many, End, Faulted}
use Rattle.line_source.specs.declared.reader.Lines.{Lines}
use Rattle.line_source.specs.Lines.{FileLine, TextLine, LongLine, ManyLine, raw_lines, numbered, past_blank}

module _ {H : Type 0} where
  abbrev pub hand_of : Lines H → H
  hand_of lines = lines.hand

  -- the number and the text of the last line that was given
  abbrev pub number_of : Lines H → ℕ
  number_of lines = lines.number

  abbrev pub text_of : Lines H → List ℕ
  text_of lines = take (lines.end - lines.start) (drop lines.start lines.buffer)

  -- the bytes that were read and not given yet
  abbrev pub ahead_of : Lines H → List ℕ
  ahead_of lines = take (lines.to - lines.from) (drop lines.from lines.buffer)

  -- the bytes of the open file that are still to be given, where `rest` is what the hand has not read
  abbrev pub unread : (H → List ℕ) → Lines H → List ℕ
  unread rest lines = ahead_of lines ++ rest lines.hand

  -- the lines of the open file that are still to be given
  abbrev pub lines_left : (H → List ℕ) → Lines H → List (ℕ × FileLine)
  lines_left rest lines = numbered (lines.number + 1) (raw_lines (unread rest lines))

module _ {H : Type 0} (told : H → Option Files) (is_open : H → Bool) (faults : H → ℕ) where
  -- a call read on in the open file: the hand tells the same files, and no line is counted yet
  pub record ReadsOn (old new : Lines H) (result : Result Raw Failed) : Type 0 where
    pub number : number_of new ≡ number_of old
    pub opened : OnOk result (is_open (hand_of new) ≡ true)
    pub closed : OnErr result (is_open (hand_of new) ≡ false)
    pub rose : OnErr result (Rose (faults (hand_of old)) (faults (hand_of new)))
    pub kept : told (hand_of new) ≡ told (hand_of old)
    pub grows : faults (hand_of old) ≤ faults (hand_of new)

-- What is given is the first line left that is not blank: its text and number, or that it is too long or one too many, or
-- that there is none. After a text the lines behind it are left.
abbrev pub GivesLine : List (ℕ × FileLine) → List (ℕ × FileLine) → ℕ → List ℕ → Line → Type 0
GivesLine old new number text Text = past_blank old ≡ (number, TextLine text) ∷ new
GivesLine old new number text Long = (more : List (ℕ × FileLine)) × (past_blank old ≡ (number, LongLine) ∷ more)
GivesLine old new number text Many = (more : List (ℕ × FileLine)) × (past_blank old ≡ (number, ManyLine) ∷ more)
GivesLine old new number text End = past_blank old ≡ []
GivesLine old new number text Faulted = Unit {0}

-- a fault comes only where the count rose, or stands at its last value
abbrev pub HasCause : ℕ → ℕ → Line → Type 0
HasCause before now Faulted = Rose before now
HasCause before now _ = Unit {0}

-- the file stays open but for a fault
abbrev pub StaysOpen : Bool → Line → Type 0
StaysOpen is_open Faulted = is_open ≡ false
StaysOpen is_open _ = is_open ≡ true

-- the number never falls; a text has a later one than the line given before it, and one that a file may have
abbrev pub GoesOn : ℕ → ℕ → Line → Type 0
GoesOn before now Text = (before < now) × (now ≤ 10_000_000)
GoesOn before now _ = before ≤ now
