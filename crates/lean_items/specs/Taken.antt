-- What was taken of the feeds of a pool, and what it has to do with the lists of their keys.
use Rattle.std.specs.Prelude.{◌≡◌, ℕ, ◌==◌, ◌⊎◌, if◌then◌else◌, List, [], ◌∷◌, ◌++◌, Option, Some, None, option_map, Result, Ok, Err}
use Rattle.std.specs.List.{All, Contains}
use Rattle.lean_fixed.specs.Counts.{Rose}
use Rattle.lean_fixed.specs.declared.memory.NoMemory.{NoMemory}
use Rattle.lean_items.specs.declared.feed_key.FeedKey.{FeedKey}
use Rattle.lean_items.specs.declared.feed_no.FeedNo.{FeedNo}
use Rattle.lean_items.specs.declared.item.Item.{Item}
use Rattle.lean_items.specs.declared.item.Item.TheVariants.{Faulted}
use Rattle.lean_items.specs.Given.{IsRow}

-- Taken items follow a list: they are a front of it, or a front of its rows and then a failed read.
abbrev pub Follows : List Item → List Item → Type 0
Follows list taken =
    ((rest : List Item) × (list ≡ taken ++ rest))
    ⊎ ((rows rest : List Item) × (taken ≡ rows ++ Faulted ∷ []) × (list ≡ rows ++ rest) × All IsRow rows)

-- what a pool's folder had when the pool was new: the faults that were met by the hands that were taken back, and the hands
-- that were out
pub record Start : Type 0 where
  pub faults : ℕ
  pub hands : ℕ

-- the key of a feed, and what was taken of it
pub record Taken : Type 0 where
  pub key : FeedKey
  pub items : List Item

-- what was taken of the feeds that were ever added, by their numbers
abbrev pub Feeds : Type 0
Feeds = ℕ → Option Taken

abbrev pub no_feeds : Feeds
no_feeds n = None

-- a feed was added, with nothing taken of it
abbrev pub added_to : Feeds → FeedKey → Result FeedNo NoMemory → Feeds
added_to feeds key (Ok feed) = λ n. if n == feed.0 then Some (record { key = key; items = [] }) else feeds n
added_to feeds key (Err e) = feeds

-- items were taken of one feed
abbrev pub more : List Item → Taken → Taken
more items taken = record { key = taken.key; items = taken.items ++ items }

abbrev pub taken_of : Feeds → ℕ → Item → Feeds
taken_of feeds feed item = λ n. if n == feed then option_map (more (item ∷ [])) (feeds n) else feeds n

-- what was taken of each feed follows the list of its key
abbrev pub AllFollow : (FeedKey → List Item) → Feeds → Type 0
AllFollow lists feeds = (n : ℕ) (taken : Taken) → feeds n ≡ Some taken → Follows (lists taken.key) taken.items

-- a failed read was taken only where the count of faults rose
abbrev pub FaultsRose : Feeds → ℕ → ℕ → Type 0
FaultsRose feeds before now = (n : ℕ) (taken : Taken) → feeds n ≡ Some taken → Contains taken.items Faulted → Rose before now
