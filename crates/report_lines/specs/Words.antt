-- Words that are joined by spaces.
use Rattle.std.specs.Prelude.{ℕ, ◌==◌, suc, Bool, List, ◌∷◌, ◌++◌, take, drop, position, Option, option_map}

abbrev pub is_space : ℕ → Bool
is_space b = b == 32

-- a word, a space and what follows
abbrev pub spaced : List ℕ → List ℕ → List ℕ
spaced word rest = word ++ 32 ∷ rest

-- the text before the first space, and that behind it; there is none where there is no space
abbrev pub cut : List ℕ → Option (List ℕ × List ℕ)
cut text = option_map (λ i. (take i text, drop (suc i) text)) (position is_space text)
