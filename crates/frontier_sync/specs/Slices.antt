-- What is given of some heads at a moment, and which heads follow them.
use Rattle.std.specs.Prelude.{◌≡◌, ◌≢◌, ℕ, ◌==◌, if◌then◌else◌, ℤ, Bool, false, List, [], ◌∷◌, ◌++◌, map, option_map}
use Rattle.std.specs.List.{All, AllZip, filter, flat_map}
use Rattle.std.specs.Ordering.{int_eq}
use Rattle.lean_items.specs.declared.arrival.Arrival.{Arrival}
use Rattle.lean_items.specs.declared.item.Item.{Item}
use Rattle.lean_items.specs.declared.item.Item.TheVariants.{Bar, Coarse, Bad, Faulted, End}
use Rattle.lean_items.specs.Fits.{fits}
use Rattle.lean_items.specs.Given.{end_of}
use Rattle.lean_items.specs.Taken.{Start, Feeds, more}
use Rattle.frontier_sync.specs.Heads.{arrival, EndsFrom, EndsAfter}

-- a row that ends at a moment
abbrev pub ends_at : ℤ → Item → Bool
ends_at at (Bar bar) = int_eq bar.end.0 at
ends_at at (Coarse from row) = int_eq from.0 at
ends_at at (Bad bad) = false
ends_at at Faulted = false
ends_at at End = false

-- Of a head and what was taken of its feed behind it, what ends at a moment. An item that does not fit behind one that ends
-- at the moment is passed over.
abbrev pub given_of : ℤ → Item → List Item → List Item
given_of at head taken = filter (ends_at at) (head ∷ filter (fits at) taken)

-- A head was given at a moment if it ends there, and as many items were taken behind it as were given or passed over.
pub record Refilled (at : ℤ) (head : Item) (taken : List Item) (next : Item) : Type 0 where
  -- the next head stands right behind what was given
  pub kept : head ∷ filter (fits at) taken ≡ given_of at head taken ++ next ∷ []
  -- of a feed whose head does not end at the moment nothing is taken
  pub idle : ends_at at head ≡ false → taken ≡ []
  -- at the least end nothing that ends there is left behind
  pub later : EndsFrom at (end_of head) → EndsAfter at (end_of next)

-- what is given of the feed of a head, where this was taken of each feed
abbrev pub given_here : ℤ → (ℕ → List Item) → Arrival → List Arrival
given_here at taken a = map (arrival a.feed) (given_of at a.item (taken a.feed.0))

abbrev pub IsRefilled : ℤ → (ℕ → List Item) → Arrival → Arrival → Type 0
IsRefilled at taken a b = (b.feed ≡ a.feed) × Refilled at a.item (taken a.feed.0) b.item

-- the heads that follow some heads, where this was taken of each feed
abbrev pub IsSliced : ℤ → (ℕ → List Item) → List Arrival → List Arrival → Type 0
IsSliced at taken heads after = AllZip (IsRefilled at taken) heads after

-- what is given of all heads, feed after feed
abbrev pub slice_of : ℤ → (ℕ → List Item) → List Arrival → List Arrival
slice_of at taken heads = flat_map (given_here at taken) heads

-- nothing is taken of a feed that has no head
abbrev pub TakesOfHeads : List Arrival → (ℕ → List Item) → Type 0
TakesOfHeads heads taken = (n : ℕ) → All (λ a. a.feed.0 ≢ n) heads → taken n ≡ []

-- this was taken of each feed
abbrev pub taken_all : Feeds → (ℕ → List Item) → Feeds
taken_all feeds taken = λ n. option_map (more (taken n)) (feeds n)

-- this was taken of one feed
abbrev pub taken_one : Feeds → ℕ → List Item → Feeds
taken_one feeds feed taken = λ n. if n == feed then option_map (more taken) (feeds n) else feeds n

-- whatever a pool stood for, it stands for it with what was taken of one feed
abbrev pub TakesOfOne : (Start → Feeds → Type 0) → (Start → Feeds → Type 0) → ℕ → List Item → Type 0
TakesOfOne old_stands new_stands feed taken =
    (before : Start) (feeds : Feeds) → old_stands before feeds → new_stands before (taken_one feeds feed taken)

-- whatever a pool stood for, it stands for it with what was taken of each feed
abbrev pub MovesOn : (Start → Feeds → Type 0) → (Start → Feeds → Type 0) → (ℕ → List Item) → Type 0
MovesOn old_stands new_stands taken =
    (before : Start) (feeds : Feeds) → old_stands before feeds → new_stands before (taken_all feeds taken)
