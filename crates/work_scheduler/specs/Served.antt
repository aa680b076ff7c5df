-- What was given of a feed, by the count of faults of its own hand, and what it has to do with the feed's list.
use Rattle.std.specs.Prelude.{◌≡◌, ℕ, ◌+◌, ◌≤◌, Bool, true, false, if◌then◌else◌, List, [], ◌∷◌, ◌++◌, Option, Some, None}
use Rattle.std.specs.List.{All, Contains}
use Rattle.lean_fixed.specs.Counts.{Rose}
use Rattle.lean_items.specs.declared.item.Item.{Item}
use Rattle.lean_items.specs.declared.item.Item.TheVariants.{Faulted}
use Rattle.lean_items.specs.Given.{IsRow, is_last}
use Rattle.lean_items.specs.Taken.{Follows}

-- the item in hand, if there is one
abbrev pub held_items : Option Item → List Item
held_items None = []
held_items (Some item) = item ∷ []

abbrev pub held_count : Option Item → ℕ
held_count None = 0
held_count (Some item) = 1

abbrev pub holds_none : Option Item → Bool
holds_none None = true
holds_none (Some item) = false

-- no more items than this are left of a feed: its rows and its last item
abbrev pub left_count : Bool → ℕ → ℕ
left_count over room = if over then 0 else (room + 1)

-- the item in hand is a last one exactly where the feed is over
abbrev pub IsTied : Option Item → Bool → Type 0
IsTied held over = (item : Item) → held ≡ Some item → is_last item ≡ over

module _ {G : Type 0} (leaves : G → List Item → Type 0) (ended : G → Bool) (faults : G → ℕ) where
  -- These items were given of a feed whose list is told, or not, since its count of faults was so: they follow its list, the rest
  -- of which is left where the feed has not ended, and a failed read is among them only where the count rose.
  pub record IsServed (told : Option (List Item)) (before : ℕ) (feed : G) (given : List Item) : Type 0 where
    pub follows : (list : List Item) → told ≡ Some list → Follows list given
    pub left : (list : List Item) → told ≡ Some list → ended feed ≡ false
        → (rest : List Item) × leaves feed rest × (list ≡ given ++ rest)
    pub rows : ended feed ≡ false → All IsRow given
    pub last : ended feed ≡ true → ¬ All IsRow given
    pub since : before ≤ faults feed
    pub rose : Contains given Faulted → Rose before (faults feed)
