-- What is printed of the items that ended at a moment.
use Rattle.std.specs.Prelude.{ℕ, List, filter_map, Option, None, option_map, slice_get}
use Rattle.lean_items.specs.declared.arrival.Arrival.{Arrival}
use Rattle.lean_items.specs.declared.item.Item.{Item}
use Rattle.lean_items.specs.declared.item.Item.TheVariants.{Bar, Coarse, Bad, Faulted, End}
use Rattle.session_tape.specs.Session.{SessionBar}

-- a bar of a symbol's feed; all else is passed over
abbrev pub shown_item : Option (List ℕ) → Item → Option SessionBar
shown_item symbol (Bar bar) = option_map (λ name. (name, bar)) symbol
shown_item symbol (Coarse at row) = None
shown_item symbol (Bad bad) = None
shown_item symbol Faulted = None
shown_item symbol End = None

-- the symbols have the numbers of their feeds
abbrev pub shown_one : List (List ℕ) → Arrival → Option SessionBar
shown_one symbols a = shown_item (slice_get symbols a.feed.0) a.item

abbrev pub shown : List (List ℕ) → List Arrival → List SessionBar
shown symbols slice = filter_map (shown_one symbols) slice
