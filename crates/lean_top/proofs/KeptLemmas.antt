-- What is kept of a report when one more byte is taken.
use Rattle.std.proofs.Common.{◌≡◌, ℕ, ◌==◌, Bool, true, false, List, [], ◌∷◌, ◌++◌, refl, sym, ap, ◌∙◌, inl, inr, length, take, drop, ◌-◌, append_assoc, append-nil, ◌<◌, arith}
use Rattle.std.specs.Prelude.{not, take_while, reverse, flat_map, bytes_eq, codes}
use Rattle.std.proofs.lemmas.Bool.{cases_Bool}
use Rattle.std.proofs.lemmas.List.{reverse-append, flat_map_more, drop_at, drop_all, take_rest}
use Rattle.std.proofs.lemmas.List.Sums.{take_while-cons}
use Rattle.lean_top.specs.CloseTail.{Split, begun, with_byte, split, is_close, lines_behind, text_of}
use Rattle.lean_top.specs.Kept.{KeptState, IsKept}

-- ---- the lines of some bytes and one more

-- an LF ends the last line
abbrev pub ended : Split → Split
ended parts = record { lines = parts.lines ++ parts.rest ∷ []; rest = [] }

-- any other byte goes on with it
abbrev pub longer : ℕ → Split → Split
longer byte parts = record { lines = parts.lines; rest = parts.rest ++ byte ∷ [] }

begun-ended : (first : ℕ) (lines : List (List ℕ)) (rest : List ℕ) → begun first (lines ++ rest ∷ []) [] ≡ ended (begun first lines rest)
begun-ended first [] rest = refl
begun-ended first (line ∷ lines) rest = refl

begun-longer : (first byte : ℕ) (lines : List (List ℕ)) (rest : List ℕ) → begun first lines (rest ++ byte ∷ []) ≡ longer byte (begun first lines rest)
begun-longer first byte [] rest = refl
begun-longer first byte (line ∷ lines) rest = refl

with_byte-ended : (first : ℕ) (parts : Split) → with_byte first (ended parts) ≡ ended (with_byte first parts)
with_byte-ended first parts = elim (cases_Bool (first == 10)) [
  | inl is ↦ rw is refl
  | inr not ↦ rw not (begun-ended first parts.lines parts.rest)
]

with_byte-longer : (first byte : ℕ) (parts : Split) → with_byte first (longer byte parts) ≡ longer byte (with_byte first parts)
with_byte-longer first byte parts = elim (cases_Bool (first == 10)) [
  | inl is ↦ rw is refl
  | inr not ↦ rw not (begun-longer first byte parts.lines parts.rest)
]

pub split-ended : (bytes : List ℕ) → split (bytes ++ 10 ∷ []) ≡ ended (split bytes)
split-ended [] = refl
split-ended (first ∷ bytes) = rw (split-ended bytes) (with_byte-ended first (split bytes))

pub split-longer : (bytes : List ℕ) (byte : ℕ) → (byte == 10) ≡ false → split (bytes ++ byte ∷ []) ≡ longer byte (split bytes)
split-longer [] byte other = rw other refl
split-longer (first ∷ bytes) byte other = rw (split-longer bytes byte other) (with_byte-longer first byte (split bytes))

-- ---- the lines behind the last close line, and one more line

abbrev is_other : List ℕ → Bool
is_other line = not (is_close line)

pub behind-close : (lines : List (List ℕ)) (line : List ℕ) → is_close line ≡ true → lines_behind (lines ++ line ∷ []) ≡ []
behind-close lines line is =
    rw (reverse-append lines (line ∷ []), take_while-cons is_other line (reverse lines), is) refl

pub behind-other : (lines : List (List ℕ)) (line : List ℕ) → is_close line ≡ false → lines_behind (lines ++ line ∷ []) ≡ lines_behind lines ++ line ∷ []
behind-other lines line other =
    rw (reverse-append lines (line ∷ []), take_while-cons is_other line (reverse lines), other)
    (reverse-append (line ∷ []) (take_while is_other (reverse lines)))

pub text_of-more : (lines : List (List ℕ)) (line : List ℕ) → text_of (lines ++ line ∷ []) ≡ text_of lines ++ (line ++ 10 ∷ [])
text_of-more lines line = sym (flat_map_more (λ l. l ++ 10 ∷ []) [] lines line)

-- a line that ends before its moment does
pub short_line : (line : List ℕ) → length line < 14 → is_close line ≡ false
short_line line short = rw (drop_all 14 line (omega (arith, short))) refl

-- a line behind whose moment something else stands
pub other_line : (line prefix : List ℕ) → prefix ≡ codes " close cash " → bytes_eq (take (length prefix) (take (length line - 14) (drop 14 line))) prefix ≡ false
    → false ≡ is_close line
other_line line prefix is not = sym (rw (take_rest line 14) at (rw is at not))

-- ---- what is kept

-- whether the line without an LF is one of a close
pub last_line : (items whole : List ℕ) (line : ℕ) (kept : KeptState) (found : Bool) → kept ≡ record { bytes = items; line = line } → whole ≡ items
    → found ≡ is_close (take (length whole - line) (drop line whole)) → found ≡ is_close (drop kept.line kept.bytes)
last_line items whole line kept found is same e = rw is (rw (take_rest items line) at (rw same at e))

module _ (taken : List ℕ) (kept : KeptState) (is : IsKept taken kept) where
  abbrev parts : Split
  parts = split taken

  abbrev behind : List ℕ
  behind = text_of (lines_behind parts.lines)

  -- the line without an LF
  pub last-is : drop kept.line kept.bytes ≡ parts.rest
  last-is = rw (is.bytes, is.line) (drop_at behind parts.rest (length behind) refl)

  pub kept-byte : (byte : ℕ) (new : KeptState) → (byte == 10) ≡ false → new.bytes ≡ kept.bytes ++ byte ∷ [] → new.line ≡ kept.line
      → IsKept (taken ++ byte ∷ []) new
  kept-byte byte new other bytes line = record {
    bytes = rw (split-longer taken byte other, bytes, is.bytes) (append_assoc behind parts.rest (byte ∷ []));
    line = rw (split-longer taken byte other, line) is.line;
  }

  pub kept-close : (byte : ℕ) (new : KeptState) → byte ≡ 10 → is_close (drop kept.line kept.bytes) ≡ true → new.bytes ≡ [] → new.line ≡ 0
      → IsKept (taken ++ byte ∷ []) new
  kept-close byte new lf closes bytes line =
      let close : is_close parts.rest ≡ true = rw (← last-is) closes in
      record {
        bytes = rw (lf, split-ended taken, behind-close parts.lines parts.rest close, bytes) refl;
        line = rw (lf, split-ended taken, behind-close parts.lines parts.rest close, line) refl;
      }

  line-more : is_close parts.rest ≡ false → text_of (lines_behind (split (taken ++ 10 ∷ [])).lines) ≡ kept.bytes ++ 10 ∷ []
  line-more other =
      rw (split-ended taken, behind-other parts.lines parts.rest other, text_of-more (lines_behind parts.lines) parts.rest, is.bytes)
      (sym (append_assoc behind parts.rest (10 ∷ [])))

  pub kept-line : (byte : ℕ) (new : KeptState) → byte ≡ 10 → is_close (drop kept.line kept.bytes) ≡ false → new.bytes ≡ kept.bytes ++ byte ∷ []
      → new.line ≡ length new.bytes → IsKept (taken ++ byte ∷ []) new
  kept-line byte new lf not bytes line =
      let other : is_close parts.rest ≡ false = rw (← last-is) not in
      let more = line-more other in
      let rest : (split (taken ++ 10 ∷ [])).rest ≡ [] = rw (split-ended taken) refl in
      record {
        bytes = rw (lf, more, rest, bytes, lf) (sym (append-nil (kept.bytes ++ 10 ∷ [])));
        line = rw (lf, more, line, bytes, lf) refl;
      }
