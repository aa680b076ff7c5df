-- What some bars leave open, and what one bar more completes.
use Rattle.std.specs.Prelude.{◌≡◌, ℕ, List, [], ◌∷◌, ◌++◌, map, Some}
use Rattle.lean_items.specs.declared.bar.Bar.{Bar}
use Rattle.consolidators.specs.Buckets.{bucket, given, open_buckets}

-- these are the bars of the buckets that no bar completes
abbrev pub Leaves : ℕ → List Bar → List Bar → Type 0
Leaves period bars left = map (bucket period bars) (open_buckets period bars) ≡ map Some left

-- after one bar more these are given, and these are left
pub record Turns (period : ℕ) (bars : List Bar) (bar : Bar) (gives leaves : List Bar) : Type 0 where
  pub given : given period (bars ++ bar ∷ []) bar.end.0 ≡ gives
  pub left : Leaves period (bars ++ bar ∷ []) leaves
