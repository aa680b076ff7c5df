-- The list that a script gives, from a place on.
use Rattle.std.specs.Prelude.{ℕ, ◌+◌, ◌-◌, ◌^◌, ◌<◌, List, [], ◌∷◌}
use native.Mathlib.Omega.{arith}
use Rattle.lean_items.specs.declared.item.Item.{Item}
use Rattle.lean_items.specs.declared.item.Item.TheVariants.{Bar, Coarse, Bad, Faulted, End}
use Rattle.pool_tests.specs.declared.script.Script.{Script}

abbrev pub items_of : Script → List Item
items_of script = script.items.items

-- The list that items stand for: their rows up to the first last item, or to their end. A failed read is in no list.
abbrev pub list_of : List Item → List Item
list_of [] = End ∷ []
list_of (Bar bar ∷ items) = Bar bar ∷ list_of items
list_of (Coarse at row ∷ items) = Coarse at row ∷ list_of items
list_of (Bad bad ∷ items) = Bad bad ∷ []
list_of (Faulted ∷ items) = list_of items
list_of (End ∷ items) = End ∷ []

pub room_few : (count place : ℕ) → count + 1 < 2 ^ 40 → count - place + 1 < 2 ^ 40
room_few count place few = omega arith
