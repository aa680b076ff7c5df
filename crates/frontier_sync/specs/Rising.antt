-- A list of a feed of which nothing is passed over.
use Rattle.std.specs.Prelude.{◌≡◌, ℤ, true, List, [], ◌∷◌, ◌++◌}
use Rattle.std.specs.List.{filter}
use Rattle.lean_items.specs.declared.item.Item.{Item}
use Rattle.lean_items.specs.Fits.{Rises}
use Rattle.lean_items.specs.Given.{is_last, end_of}
use Rattle.frontier_sync.specs.Heads.{EndsFrom}
use Rattle.frontier_sync.specs.Slices.{ends_at, given_of}

-- nothing stands behind a malformed line, a failed read or the end
abbrev pub EndsOnce : List Item → Type 0
EndsOnce [] = Unit {0}
EndsOnce (item ∷ items) = (is_last item ≡ true → items ≡ []) × EndsOnce items

-- a head, what was taken behind it, and what is left of its feed's list, where the head ends no earlier than a moment
pub record AtMoment (at : ℤ) (head : Item) (taken rest : List Item) : Type 0 where
  pub after : ℤ
  pub rises : Rises after (head ∷ taken ++ rest)
  pub once : EndsOnce (head ∷ taken ++ rest)
  pub from : EndsFrom at (end_of head)

-- All that was taken is given but for the next head, and what is given is all that ends at the moment.
pub record PassesNone (at : ℤ) (head : Item) (taken rest : List Item) (next : Item) : Type 0 where
  pub all : head ∷ taken ≡ given_of at head taken ++ next ∷ []
  pub whole : given_of at head taken ≡ filter (ends_at at) (head ∷ taken ++ rest)
