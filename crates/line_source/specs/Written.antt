-- Texts that are written as lines.
use Rattle.std.specs.Prelude.{◌≡◌, ℕ, ◌+◌, ◌<◌, ◌≤◌, ◌==◌, Bool, true, not, List, [], ◌∷◌, ◌++◌, length, flat_map}
use Rattle.std.specs.List.{list_all}
use Rattle.line_source.specs.Lines.{FileLine, TextLine}

-- none of some bytes is an LF
abbrev pub has_no_lf : List ℕ → Bool
has_no_lf bytes = list_all (λ b. not (b == 10)) bytes

-- what may be the text of a line: 1 to 256 bytes, of which none is an LF, and the last is no CR
pub record IsText (text : List ℕ) : Type 0 where
  pub some : 0 < length text
  pub few : length text ≤ 256
  pub whole : has_no_lf text ≡ true
  pub ends : (front : List ℕ) → text ≡ front ++ 13 ∷ [] → ⊥

-- some texts with an LF behind each
abbrev pub written : List (List ℕ) → List ℕ
written texts = flat_map (λ text. text ++ 10 ∷ []) texts

-- the lines of some texts, numbered from `number` on
abbrev pub text_lines : ℕ → List (List ℕ) → List (ℕ × FileLine)
text_lines number [] = []
text_lines number (text ∷ more) = (number, TextLine text) ∷ text_lines (number + 1) more
