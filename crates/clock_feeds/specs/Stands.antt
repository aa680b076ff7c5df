-- How far a feed of bars has come: which of its kept rows lie behind it, and which are left.
use Rattle.std.specs.Prelude.{◌≡◌, ℕ, ◌<◌, ◌≤◌, List, [], ◌∷◌, ◌++◌, Option, None}
use Rattle.std.specs.List.{last_or}
use Rattle.lean_items.specs.declared.bar.Bar.{Bar}
use Rattle.clock_feeds.specs.Bars.{end_of}

-- each row ends at or before a moment
abbrev pub EndBy : ℕ → List Bar → Type 0
EndBy at [] = Unit {0}
EndBy at (row ∷ rows) = (end_of row ≤ at) × EndBy at rows

-- each row ends past the one before it, and the first past a moment
abbrev pub Rises : ℕ → List Bar → Type 0
Rises after [] = Unit {0}
Rises after (row ∷ rows) = (after < end_of row) × Rises (end_of row) rows

-- the rows that were passed end by a moment, those that are left rise past it, and the last that was passed is known
pub record Stands (rows left : List Bar) (last : Option Bar) (at : ℕ) : Type 0 where
  pub past : List Bar
  pub split : rows ≡ past ++ left
  pub passed : EndBy at past
  pub rising : Rises at left
  pub latest : last_or None past ≡ last
