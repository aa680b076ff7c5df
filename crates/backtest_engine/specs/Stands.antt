-- Where the heads of the active feeds stand in the lists of their keys.
use Rattle.std.specs.Prelude.{◌≡◌, ◌⊎◌, ℕ, ◌≤◌, ℤ, pos, ◌+ℤ◌, ◌≤ℤ◌, Bool, true, false, ◌&&◌, ◌==◌, List, [], Option, Some, None, slice_get}
use Rattle.std.specs.List.{All, AllZip, Contains, filter}
use Rattle.lean_fixed.specs.Calendar.{last_day}
use Rattle.lean_items.specs.declared.arrival.Arrival.{Arrival}
use Rattle.lean_items.specs.declared.feed_key.FeedKey.{FeedKey}
use Rattle.lean_items.specs.declared.item.Item.{Item}
use Rattle.lean_items.specs.declared.item.Item.TheVariants as item
use Rattle.lean_items.specs.Taken.{Start, Feeds, Taken, AllFollow, more}
use Rattle.frontier_sync.specs.Heads.{fits_first}
use Rattle.frontier_sync.specs.Slices.{ends_at}
use Rattle.frontier_sync.specs.Stands.{AtHead, AreBars, IsList, IsTaken}
use Rattle.backtest_engine.specs.Meaning.{Subscription}
use Rattle.backtest_engine.specs.Turns.{IsEquity}

-- a malformed line is one of a file that has a number
abbrev pub HasFile : Item → Type 0
HasFile (item.Bad bad) = bad.file ≤ last_day
HasFile (item.Bar bar) = Unit {0}
HasFile (item.Coarse at row) = Unit {0}
HasFile item.Faulted = Unit {0}
HasFile item.End = Unit {0}

-- The lists of all keys: each rises and ends once, each of its items may be the first, those of a security are bars, and a
-- malformed line is one of a file that has a number.
pub record AreLists (lists : FeedKey → List Item) : Type 0 where
  pub list : (key : FeedKey) → IsList (lists key)
  pub first : (key : FeedKey) → All (λ x. fits_first key.start.0 x ≡ true) (lists key)
  pub bars : (key : FeedKey) → IsEquity key.kind → AreBars (lists key)
  pub files : (key : FeedKey) → All HasFile (lists key)

-- A feed has bars, or it is the first of all, and that is the coarse feed.
abbrev pub HasKind : Bool → Subscription → Type 0
HasKind coarse f = IsEquity f.key.kind ⊎ ((f.feed ≡ 0) × (coarse ≡ true))

-- the head of an active feed at a moment before which all was given
pub record IsAt (coarse : Bool) (t : ℤ) (feeds : Feeds) (a : Arrival) (f : Subscription) : Type 0 where
  pub number : a.feed.0 ≡ f.feed
  pub items : List Item
  pub there : feeds f.feed ≡ Some (record { key = f.key; items = items })
  pub head : AtHead t items a.item
  pub kind : HasKind coarse f

abbrev pub AreAt : Bool → ℤ → Feeds → List Arrival → List Subscription → Type 0
AreAt coarse t feeds heads active = AllZip (IsAt coarse t feeds) heads active

-- of a feed whose head is a failed read nothing ends at a moment
abbrev pub IsCalm : (FeedKey → List Item) → ℤ → Arrival → Subscription → Type 0
IsCalm lists t a f = a.item ≡ item.Faulted → filter (ends_at t) (lists f.key) ≡ []

abbrev pub AreCalm : (FeedKey → List Item) → ℤ → List Arrival → List Subscription → Type 0
AreCalm lists t heads active = AllZip (IsCalm lists t) heads active

-- The slice of a moment is not whole where the coarse feed's next item is a failed read: more of its rows may end then.
abbrev pub is_faulted : Item → Bool
is_faulted item.Faulted = true
is_faulted (item.Bad bad) = false
is_faulted (item.Bar bar) = false
is_faulted (item.Coarse at row) = false
is_faulted item.End = false

abbrev pub broken : Bool → Option Arrival → Bool
broken coarse (Some a) = coarse && ((a.feed.0 == 0) && is_faulted a.item)
broken coarse None = false

-- a failed read is among what was taken
abbrev pub HasFaulted : Feeds → Type 0
HasFaulted feeds = (n : ℕ) × (taken : Taken) × (feeds n ≡ Some taken) × Contains taken.items item.Faulted

-- a failed read is among what was taken of the coarse feed
abbrev pub CoarseFailed : Bool → Feeds → Type 0
CoarseFailed coarse feeds =
    (coarse ≡ true) × (taken : Taken) × (feeds 0 ≡ Some taken) × Contains taken.items item.Faulted

-- ---- feeds that are added

-- what was taken of the feeds of a pool by some time is a front of what was taken of them later
abbrev pub HasMore : Feeds → Feeds → Type 0
HasMore feeds now = (n : ℕ) (taken : Taken) → feeds n ≡ Some taken → (rest : List Item) × (now n ≡ Some (more rest taken))

-- it is, and what follows the lists later followed them before
abbrev pub IsEarlier : Feeds → Feeds → Type 0
IsEarlier feeds now =
    ((lists : FeedKey → List Item) → AllFollow lists now → AllFollow lists feeds) × HasMore feeds now

-- what a pool has: each head was taken of its feed, and the keys of all feeds are kept by their numbers
pub record Stock (stands : Start → Feeds → Type 0) (before : Start) (added : ℕ) (heads : List Arrival) (keys : List FeedKey) (feeds : Feeds) : Type 0 where
  pub stand : stands before feeds
  pub taken : All (IsTaken feeds) heads
  pub keys_are : (n : ℕ) (taken : Taken) → feeds n ≡ Some taken → slice_get keys n ≡ Some taken.key
  pub beyond : (k : ℕ) → added ≤ k → feeds k ≡ None

-- a feed may start up to a moment, and has bars unless it is the coarse feed
pub record MayStart (coarse : Bool) (t : ℤ) (f : Subscription) : Type 0 where
  pub from : t ≤ℤ (f.key.start.0 +ℤ pos 1)
  pub kind : HasKind coarse f
