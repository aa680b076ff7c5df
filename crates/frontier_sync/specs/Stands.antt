-- Where heads stand in the lists of their feeds, at a moment before which everything was given.
use Rattle.std.specs.Prelude.{◌≡◌, ℕ, ◌+◌, ℤ, ◌<ℤ◌, Bool, true, false, List, [], ◌∷◌, ◌++◌, map, Option, Some, None}
use Rattle.std.specs.List.{All, Contains, filter}
use Rattle.lean_items.specs.declared.arrival.Arrival.{Arrival}
use Rattle.lean_items.specs.declared.feed_key.FeedKey.{FeedKey}
use Rattle.lean_items.specs.declared.item.Item.{Item}
use Rattle.lean_items.specs.declared.item.Item.TheVariants.{Bar, Coarse, Bad, Faulted, End}
use Rattle.lean_items.specs.Fits.{Rises}
use Rattle.lean_items.specs.Given.{end_of}
use Rattle.lean_items.specs.Taken.{Feeds, Taken}
use Rattle.frontier_sync.specs.Heads.{arrival, EndsFrom}
use Rattle.frontier_sync.specs.Slices.{ends_at}
use Rattle.frontier_sync.specs.Rising.{EndsOnce}

-- an end before a moment
abbrev pub EndsBefore : ℤ → Option ℤ → Type 0
EndsBefore t None = ⊥
EndsBefore t (Some end) = end <ℤ t

-- Of the items that were taken of a feed all but the last end before a moment and were given. The last is the head.
pub record AtHead (t : ℤ) (items : List Item) (head : Item) : Type 0 where
  pub given : List Item
  pub is : items ≡ given ++ head ∷ []
  pub before : All (λ item. EndsBefore t (end_of item)) given
  pub from : EndsFrom t (end_of head)

-- the heads are those of the feeds of some keys, from a number on
abbrev pub HeadsStand : ℤ → Feeds → ℕ → List Arrival → List FeedKey → Type 0
HeadsStand t feeds n [] [] = Unit {0}
HeadsStand t feeds n [] (key ∷ keys) = ⊥
HeadsStand t feeds n (a ∷ heads) [] = ⊥
HeadsStand t feeds n (a ∷ heads) (key ∷ keys) =
    (a.feed.0 ≡ n)
    × ((items : List Item) × (feeds n ≡ Some (record { key = key; items = items })) × AtHead t items a.item)
    × HeadsStand t feeds (n + 1) heads keys

-- a head is among what was taken of its feed
abbrev pub IsTaken : Feeds → Arrival → Type 0
IsTaken feeds a = (taken : Taken) × (feeds a.feed.0 ≡ Some taken) × Contains taken.items a.item

-- a head is no failed read
abbrev pub IsSound : Arrival → Type 0
IsSound a = a.item ≡ Faulted → ⊥

-- the list of a feed: its items rise, and nothing stands behind its last one
pub record IsList (list : List Item) : Type 0 where
  pub after : ℤ
  pub rises : Rises after list
  pub once : EndsOnce list

abbrev pub AreLists : (FeedKey → List Item) → List FeedKey → Type 0
AreLists lists keys = All (λ key. IsList (lists key)) keys

-- a row of a coarse universe file
abbrev pub is_coarse : Item → Bool
is_coarse (Coarse at row) = true
is_coarse (Bar bar) = false
is_coarse (Bad bad) = false
is_coarse Faulted = false
is_coarse End = false

-- no row of a coarse universe file is among some items
abbrev pub AreBars : List Item → Type 0
AreBars items = All (λ item. is_coarse item ≡ false) items

-- what ends at a moment in the lists of some keys, feed after feed from a number on
abbrev pub slice_at : (FeedKey → List Item) → ℤ → ℕ → List FeedKey → List Arrival
slice_at lists t n [] = []
slice_at lists t n (key ∷ keys) =
    map (arrival (record { 0 = n })) (filter (ends_at t) (lists key)) ++ slice_at lists t (n + 1) keys
