-- What a feed gives, item after item: rows, and then one last item.
use Rattle.std.specs.Prelude.{◌≡◌, ℤ, Bool, true, false, List, [], ◌∷◌, Option, Some, None}
use Rattle.lean_items.specs.declared.item.Item.{Item}
use Rattle.lean_items.specs.declared.item.Item.TheVariants.{Bar, Coarse, Bad, Faulted, End}

-- nothing comes behind a malformed line, a failed read or the end
abbrev pub is_last : Item → Bool
is_last (Bar bar) = false
is_last (Coarse at row) = false
is_last (Bad bad) = true
is_last Faulted = true
is_last End = true

-- a bar or a coarse row
abbrev pub IsRow : Item → Type 0
IsRow item = is_last item ≡ false

-- the moment from which on a row is known
abbrev pub end_of : Item → Option ℤ
end_of (Bar bar) = Some bar.end.0
end_of (Coarse at row) = Some at.0
end_of (Bad bad) = None
end_of Faulted = None
end_of End = None

-- of a row a fact holds
abbrev pub OnRow : Item → Type 0 → Type 0
OnRow (Bar bar) P = P
OnRow (Coarse at row) P = P
OnRow (Bad bad) P = Unit {0}
OnRow Faulted P = Unit {0}
OnRow End P = Unit {0}

-- of a failed read a fact holds
abbrev pub OnFaulted : Item → Type 0 → Type 0
OnFaulted Faulted P = P
OnFaulted (Bar bar) P = Unit {0}
OnFaulted (Coarse at row) P = Unit {0}
OnFaulted (Bad bad) P = Unit {0}
OnFaulted End P = Unit {0}

-- an item is the next of a list, and the rest of the list is left
abbrev pub IsNext : (List Item → Type 0) → List Item → Item → Type 0
IsNext leaves list item = (rest : List Item) × (list ≡ item ∷ rest) × leaves rest

-- A feed that had a list left to give gave an item: the next row, with the rest left now, or the last item, which was all
-- that was left. A failed read may come in place of any.
abbrev pub GivesItem : (List Item → Type 0) → List Item → Item → Type 0
GivesItem leaves list (Bar bar) = IsNext leaves list (Bar bar)
GivesItem leaves list (Coarse at row) = IsNext leaves list (Coarse at row)
GivesItem leaves list (Bad bad) = list ≡ Bad bad ∷ []
GivesItem leaves list Faulted = Unit {0}
GivesItem leaves list End = list ≡ End ∷ []
