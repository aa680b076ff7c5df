-- What stands before an LF, as it is found piece by piece.
use Rattle.std.specs.Prelude.{◌≡◌, ℕ, ◌+◌, ◌<◌, true, List, [], ◌∷◌, length, take, drop, Option, None, Some}
use Rattle.line_source.specs.declared.raw.Raw.{Raw}
use Rattle.line_source.specs.declared.raw.Raw.TheVariants.{Line, Long, End}
use Rattle.line_source.specs.Lines.{raw_lines}
use Rattle.line_source.specs.Written.{has_no_lf}

-- the first LF of some bytes stands at a place, or there is none
abbrev pub FindsLf : List ℕ → Option ℕ → Type 0
FindsLf bytes None = has_no_lf bytes ≡ true
FindsLf bytes (Some place) =
    (place < length bytes) × (has_no_lf (take place bytes) ≡ true) × (drop place bytes ≡ 10 ∷ drop (place + 1) bytes)

-- what is taken from the front of the bytes of a file: the first line, with its bytes, or one that is too long, or nothing
abbrev pub GivesRaw : List ℕ → List ℕ → List ℕ → Raw → Type 0
GivesRaw old new line Line = raw_lines old ≡ line ∷ raw_lines new
GivesRaw old new line Long = (long : List ℕ) × (more : List (List ℕ)) × (256 < length long) × (raw_lines old ≡ long ∷ more)
GivesRaw old new line End = old ≡ []
