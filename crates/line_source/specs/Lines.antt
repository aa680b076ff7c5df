-- The numbered lines of a file, on the whole list of its bytes.
use Rattle.std.specs.Prelude.{ℕ, ◌+◌, ◌==◌, ◌&&◌, nat_lt, List, [], ◌∷◌, length, if◌then◌else◌}
use Rattle.lean_fixed.specs.Fields.{begin_first}

-- what stands before each LF, and the bytes behind the last LF if there are any
abbrev pub raw_lines : List ℕ → List (List ℕ)
raw_lines [] = []
raw_lines (b ∷ bs) = if b == 10 then [] ∷ raw_lines bs else begin_first b (raw_lines bs)

-- the bytes without one CR at their end
abbrev pub without_cr : List ℕ → List ℕ
without_cr [] = []
without_cr (b ∷ bs) = if (b == 13) && (length bs == 0) then [] else b ∷ without_cr bs

-- what a line is: a text, blank, longer than a line may be, or beyond the number of lines that a file may have
pub data FileLine : Type 0 where
  TextLine : List ℕ → FileLine
  BlankLine : FileLine
  LongLine : FileLine
  ManyLine : FileLine

-- a line of this text
abbrev pub text_line : List ℕ → FileLine
text_line [] = BlankLine
text_line (b ∷ bs) = TextLine (b ∷ bs)

-- the line of a number, counted from 1, and of what stands before its LF
abbrev pub line_of : ℕ → List ℕ → FileLine
line_of number raw =
    if nat_lt 10_000_000 number then ManyLine
    else if nat_lt 256 (length raw) then LongLine
    else text_line (without_cr raw)

-- the lines numbered from `number` on
abbrev pub numbered : ℕ → List (List ℕ) → List (ℕ × FileLine)
numbered number [] = []
numbered number (raw ∷ more) = (number, line_of number raw) ∷ numbered (number + 1) more

-- the numbered lines of a file's bytes
abbrev pub lines : List ℕ → List (ℕ × FileLine)
lines bytes = numbered 1 (raw_lines bytes)

-- some lines without the blank ones before the first that is not blank
abbrev pub past_blank : List (ℕ × FileLine) → List (ℕ × FileLine)
past_blank [] = []
past_blank ((number, BlankLine) ∷ more) = past_blank more
past_blank (line ∷ more) = line ∷ more
