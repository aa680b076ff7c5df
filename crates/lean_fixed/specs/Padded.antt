-- A symbol that is kept in an array of twelve bytes.
use Rattle.std.specs.Prelude.{◌≡◌, ℕ, ◌-◌, ◌≤◌, IsTrue, List, [], ◌∷◌, ◌++◌, length, take, drop, replicate}
use Rattle.std.proofs.Common.{arith}
use Rattle.std.proofs.lemmas.List.{take-append-drop, length-take-le}
use Rattle.lean_fixed.specs.Symbol.{is_symbol}

-- the text and zeros behind it, `size` bytes in all
abbrev pub padded_to : ℕ → List ℕ → List ℕ
padded_to size text = text ++ replicate (size - length text) 0

-- what a symbol feeds a hasher: the first eight of its twelve bytes, and the others
abbrev pub padded_writes : List ℕ → List (List ℕ)
padded_writes text = take 8 (padded_to 12 text) ∷ take 4 (drop 8 (padded_to 12 text)) ∷ []

-- twelve bytes of which the first `len` are a symbol and the others are zero
pub record IsPadded (padded : List ℕ) (len : ℕ) : Type 0 where
  pub size : length padded ≡ 12
  pub within : len ≤ 12
  pub symbol : IsTrue (is_symbol (take len padded))
  pub rest : drop len padded ≡ replicate (12 - len) 0

-- such an array is known by its symbol: that has its length, and padded it is the array
pub length-kept : (padded : List ℕ) (len : ℕ) → IsPadded padded len → length (take len padded) ≡ len
length-kept padded len kept = length-take-le len padded (omega arith)

pub padded_to-kept : (padded : List ℕ) (len : ℕ) → IsPadded padded len → padded_to 12 (take len padded) ≡ padded
padded_to-kept padded len kept =
    rw (length-kept padded len kept, ← kept.rest) (take-append-drop len padded)
