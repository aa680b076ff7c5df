-- What was taken of the feeds of a pool in memory.
use Rattle.std.specs.Prelude.{◌≡◌, ℕ, ◌+◌, ◌-◌, ◌^◌, ◌<◌, ◌≤◌, Bool, if◌then◌else◌, List, ◌++◌, Option, Some, None, is_some, drop, slice_index_or}
use Rattle.std.specs.List.{All, Contains}
use native.Mathlib.Omega.{arith}
use Rattle.lean_fixed.specs.Counts.{Rose}
use Rattle.lean_items.specs.declared.feed_key.FeedKey.{FeedKey}
use Rattle.lean_items.specs.declared.item.Item.{Item}
use Rattle.lean_items.specs.declared.item.Item.TheVariants.{Bar, Coarse, Bad, Faulted, End}
use Rattle.lean_items.specs.Given.{IsRow}
use Rattle.lean_items.specs.Taken.{Start, Taken, Feeds, Follows}
use Rattle.feed_pool.specs.Each.{AtEach}
use Rattle.pool_tests.specs.Scripts.{list_of}

-- a feed that fills begins at the first item of the script, and another at the second
abbrev pub first_place : FeedKey → ℕ
first_place key = if key.fill then 0 else 1

abbrev pub list_at : List Item → FeedKey → List Item
list_at items key = list_of (drop (first_place key) items)

-- a feed of this number is open, which has a place in the script
abbrev pub is_open_at : List (Option ℕ) → ℕ → Bool
is_open_at places n = is_some (slice_index_or places n None)

-- so many items are behind a place
abbrev pub room_behind : ℕ → Option ℕ → ℕ
room_behind count None = 0
room_behind count (Some place) = count - place

pub room-behind_few : (count : ℕ) (place : Option ℕ) → count + 1 < 2 ^ 40 → room_behind count place < 2 ^ 40
room-behind_few count None few = omega arith
room-behind_few count (Some place) few = omega arith

-- the place behind an item, where more is to come
abbrev pub place_behind : Item → ℕ → Option ℕ
place_behind (Bar bar) place = Some (place + 1)
place_behind (Coarse at row) place = Some (place + 1)
place_behind (Bad bad) place = None
place_behind Faulted place = None
place_behind End place = None

-- what was taken of a feed, and the place at which it stands
pub record Standing (items : List Item) (before now : ℕ) (place : Option ℕ) (taken : Taken) : Type 0 where
  pub follows : Follows (list_at items taken.key) taken.items
  pub left : (p : ℕ) → place ≡ Some p → (list_at items taken.key ≡ taken.items ++ list_of (drop p items)) × All IsRow taken.items
  pub rose : Contains taken.items Faulted → Rose before now

pub record Stands (items : List Item) (start : Start) (now : ℕ) (places : List (Option ℕ)) (feeds : Feeds) : Type 0 where
  pub since : start.faults ≤ now
  pub each : AtEach (Standing items start.faults now) places feeds
  pub no_hands : start.hands ≡ 0
