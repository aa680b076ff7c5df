-- What was taken of a feed, and what it has to do with the feed and its list.
use Rattle.std.specs.Prelude.{◌≡◌, ℕ, ◌+◌, ◌^◌, ◌<◌, ◌≤◌, Bool, false, not, List, [], ◌∷◌, ◌++◌, Option, Some, None, slice_index_or}
use Rattle.std.specs.List.{All, Contains}
use Rattle.lean_fixed.specs.Counts.{Rose, raised}
use Rattle.lean_items.specs.declared.feed_key.FeedKey.{FeedKey}
use Rattle.lean_items.specs.declared.item.Item.{Item}
use Rattle.lean_items.specs.declared.item.Item.TheVariants.{Faulted}
use Rattle.lean_items.specs.Given.{IsRow, OnRow, OnFaulted, GivesItem, is_last}
use Rattle.lean_items.specs.Taken.{Start, Taken, Feeds, Follows}
use Rattle.feed_pool.specs.Each.{AtEach}
use native.Mathlib.Omega.{arith}

-- a feed was removed: the folder's count holds the faults of its hand
pub record IsSettled (lists : Option (FeedKey → List Item)) (before now : ℕ) (taken : Taken) : Type 0 where
  pub follows : (l : FeedKey → List Item) → lists ≡ Some l → Follows (l taken.key) taken.items
  pub rose : Contains taken.items Faulted → Rose before now

module _ {G : Type 0} where
  -- a feed is there, and its last item was not given
  abbrev pub is_running : (G → Bool) → Option G → Bool
  is_running ended None = false
  is_running ended (Some feed) = not (ended feed)

  abbrev pub is_open_at : (G → Bool) → List (Option G) → ℕ → Bool
  is_open_at ended feeds n = is_running ended (slice_index_or feeds n None)

  -- no more rows than this are left of a feed
  abbrev pub room_of : (G → ℕ) → Option G → ℕ
  room_of room None = 0
  room_of room (Some feed) = room feed

  abbrev pub room_at : (G → ℕ) → List (Option G) → ℕ → ℕ
  room_at room feeds n = room_of room (slice_index_or feeds n None)

  pub room-of_few : (room : G → ℕ) → ((feed : G) → room feed + 1 < 2 ^ 40) → (feed : Option G) → room_of room feed < 2 ^ 40
  room-of_few room few None = omega arith
  room-of_few room few (Some feed) = (let h = few feed in omega arith)

  -- how many feeds are there, each with a hand
  abbrev pub one : Option G → ℕ
  one None = 0
  one (Some feed) = 1

  abbrev pub held : List (Option G) → ℕ
  held [] = 0
  held (x ∷ feeds) = one x + held feeds

  -- the folder's count after the hand of a feed was given back
  abbrev pub counted : (G → ℕ) → Option G → ℕ → ℕ
  counted faults None now = now
  counted faults (Some feed) now = raised now (faults feed)

  module _ (leaves : G → List Item → Type 0) (ended : G → Bool) (faults : G → ℕ) where
    -- a feed is there: the rest of the list of its key is left, and its own hand has met the faults
    pub record IsRunning (lists : Option (FeedKey → List Item)) (feed : G) (taken : Taken) : Type 0 where
      pub follows : (l : FeedKey → List Item) → lists ≡ Some l → Follows (l taken.key) taken.items
      pub left : (l : FeedKey → List Item) → lists ≡ Some l → ended feed ≡ false
          → (rest : List Item) × leaves feed rest × (l taken.key ≡ taken.items ++ rest)
      pub rows : ended feed ≡ false → All IsRow taken.items
      pub rose : Contains taken.items Faulted → Rose 0 (faults feed)

  module _ (leaves : G → List Item → Type 0) (ended : G → Bool) (faults : G → ℕ) where
    abbrev pub Standing : Option (FeedKey → List Item) → ℕ → ℕ → Option G → Taken → Type 0
    Standing lists before now None taken = IsSettled lists before now taken
    Standing lists before now (Some feed) taken = IsRunning leaves ended faults lists feed taken

    -- what was taken of the feeds of a pool, since the folder's count was so
    pub record Stands (lists : Option (FeedKey → List Item)) (before now : ℕ) (feeds : List (Option G)) (taken : Feeds) : Type 0 where
      pub since : before ≤ now
      pub each : AtEach (Standing lists before now) feeds taken

    -- the same, and the hands that are out beyond those at the start are those of the feeds that are there
    pub record Runs (lists : Option (FeedKey → List Item)) (start now : Start) (feeds : List (Option G)) (taken : Feeds) : Type 0 where
      pub stands : Stands lists start.faults now.faults feeds taken
      pub hands : now.hands ≡ start.hands + held feeds

    -- a feed that stands in a place gave an item
    pub record Gave (room : G → ℕ) (old new : Option G) (item : Item) : Type 0 where
      pub was : G
      pub is : G
      pub there : old ≡ Some was
      pub still : new ≡ Some is
      pub gives : (list : List Item) → leaves was list → GivesItem (leaves is) list item
      pub fewer : OnRow item (room is < room was)
      pub ends : ended is ≡ is_last item
      pub grows : faults was ≤ faults is
      pub rose : OnFaulted item (Rose (faults was) (faults is))
