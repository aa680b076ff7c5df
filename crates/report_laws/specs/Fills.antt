-- The fills that the lines of a report show.
use Rattle.std.specs.Prelude.{ℕ, List, Option, Some, None}
use Rattle.std.specs.List.{filter_map}
use Rattle.lean_orders.specs.declared.event.Fill.{Fill}
use Rattle.lean_orders.specs.declared.event.What.{What}
use Rattle.lean_orders.specs.declared.event.What.TheVariants.{Submitted, Updated, Filled, Canceled, Invalid}
use Rattle.clock_run.specs.Lines.{Line, added, removed, happened, closed}

-- the fill that the line of an order shows: its symbol, and behind the word `filled` the quantity, the price and the fee
abbrev pub fill_shown : Option (List ℕ) → What → Option Fill
fill_shown None what = None
fill_shown (Some symbol) (Submitted kind quantity price limit) = None
fill_shown (Some symbol) (Updated price) = None
fill_shown (Some symbol) (Filled fill) = Some (record fill { symbol = symbol })
fill_shown (Some symbol) Canceled = None
fill_shown (Some symbol) (Invalid cause) = None

abbrev pub fill_printed : Line → Option Fill
fill_printed (added t symbol) = None
fill_printed (removed t symbol) = None
fill_printed (happened event) = fill_shown event.symbol event.what
fill_printed (closed t cash equity) = None

-- the fills that some lines show, in their order
abbrev pub fills_printed : List Line → List Fill
fills_printed lines = filter_map fill_printed lines
