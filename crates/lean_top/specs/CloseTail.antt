-- What follows the last close line of a report.
use Rattle.std.specs.Prelude.{ℕ, Bool, not, ◌==◌, bytes_eq, if◌then◌else◌, List, [], ◌∷◌, ◌++◌, take, drop, reverse, take_while, flat_map, codes}

-- some bytes as their whole lines, each without its LF, and the bytes behind the last LF
pub record Split : Type 0 where
  pub lines : List (List ℕ)
  pub rest : List ℕ

-- one more byte in front of the first line
abbrev pub begun : ℕ → List (List ℕ) → List ℕ → Split
begun byte [] rest = record { lines = []; rest = byte ∷ rest }
begun byte (line ∷ lines) rest = record { lines = (byte ∷ line) ∷ lines; rest = rest }

-- one more byte in front, which may be an LF
abbrev pub with_byte : ℕ → Split → Split
with_byte byte split =
    if byte == 10 then record { lines = [] ∷ split.lines; rest = split.rest } else begun byte split.lines split.rest

abbrev pub split : List ℕ → Split
split [] = record { lines = []; rest = [] }
split (byte ∷ bytes) = with_byte byte (split bytes)

-- the line of a close: behind the fourteen bytes of its moment stands what it tells
abbrev pub is_close : List ℕ → Bool
is_close line = bytes_eq (take 12 (drop 14 line)) (codes " close cash ")

-- the lines behind the last close line
abbrev pub lines_behind : List (List ℕ) → List (List ℕ)
lines_behind lines = reverse (take_while (λ line. not (is_close line)) (reverse lines))

-- lines as bytes
abbrev pub text_of : List (List ℕ) → List ℕ
text_of lines = flat_map (λ line. line ++ 10 ∷ []) lines

-- the bytes behind the last close line, or all where there is none
unfoldable pub behind_close : List ℕ → List ℕ
behind_close bytes = text_of (lines_behind (split bytes).lines) ++ (split bytes).rest
