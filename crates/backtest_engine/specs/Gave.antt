-- The next items of feeds, by what a pool gave of them.
use Rattle.std.specs.Prelude.{◌≡◌, ◌⊎◌, ℤ, int_lt, Bool, true, false, if◌then◌else◌, List, [], ◌∷◌, Option, Some, None}
use Rattle.std.specs.List.{All}
use Rattle.lean_items.specs.declared.item.Item.{Item}
use Rattle.lean_items.specs.declared.item.Item.TheVariants as item
use Rattle.lean_items.specs.Taken.{Feeds, Taken}
use Rattle.frontier_sync.specs.Heads.{stops}
use Rattle.backtest_engine.specs.Meaning.{Subscription}
use Rattle.backtest_engine.specs.Turns.{IsEquity}

-- a row that ended before a moment
abbrev pub is_before : ℤ → Item → Bool
is_before t (item.Bar bar) = int_lt bar.end.0 t
is_before t (item.Coarse at row) = int_lt at.0 t
is_before t (item.Bad bad) = false
is_before t item.Faulted = false
is_before t item.End = false

-- the next of some items at a moment: the first that is no row which ended before it
abbrev pub next_at : ℤ → List Item → Option Item
next_at t [] = None
next_at t (x ∷ items) = if is_before t x then next_at t items else Some x

abbrev pub next_in : ℤ → Option Taken → Option Item
next_in t None = None
next_in t (Some taken) = next_at t taken.items

-- the next item of a feed at a moment, by what was given of it
abbrev pub next_of : Feeds → ℤ → Subscription → Option Item
next_of gave t f = next_in t (gave f.feed)

-- a feed's next item is neither a malformed line nor a failed read
abbrev pub IsQuiet : Feeds → ℤ → Subscription → Type 0
IsQuiet gave t f = (x : Item) × (next_of gave t f ≡ Some x) × (stops x ≡ false)

abbrev pub AreQuiet : Feeds → ℤ → List Subscription → Type 0
AreQuiet gave t active = All (IsQuiet gave t) active

-- the coarse feed's next item is no failed read
abbrev pub IsSound : Feeds → ℤ → Subscription → Type 0
IsSound gave t f =
    (x : Item) × (next_of gave t f ≡ Some x) × ((x ≡ item.Faulted → ⊥) ⊎ IsEquity f.key.kind)

abbrev pub AreSound : Feeds → ℤ → List Subscription → Type 0
AreSound gave t active = All (IsSound gave t) active

-- an item is that of the first of some feeds whose next item is a malformed line or a failed read
abbrev pub IsStop : Feeds → ℤ → List Subscription → Item → Type 0
IsStop gave t [] x = ⊥
IsStop gave t (f ∷ active) x =
    ((next_of gave t f ≡ Some x) × (stops x ≡ true)) ⊎ (IsQuiet gave t f × IsStop gave t active x)
