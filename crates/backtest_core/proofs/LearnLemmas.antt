-- What the book tells can be learnt.
use Rattle.std.proofs.Common.{ℕ, ◌<◌, List, length, Option, Some, None}
use Rattle.lean_orders.specs.declared.event.OrderEvent.{OrderEvent}
use Rattle.lean_orders.specs.declared.event.What.{What}
use Rattle.lean_orders.specs.declared.event.What.TheVariants.{Submitted, Updated, Filled, Canceled, Invalid}
use Rattle.lean_orders.specs.declared.desk.Reply.TheVariants.{Event}
use Rattle.portfolio.specs.Stands.{most_fills}
use Rattle.report_lines.specs.EventLines.{IsWhatOf, IsEvent}
use Rattle.clock_book.specs.Seen.{Seen}
use Rattle.backtest_core.specs.Mirror.{CanBeLearnt, CanLearn}

what-fits : (seen : Seen) (symbol : Option (List ℕ)) (what : What) → IsWhatOf symbol what → length seen.fills < most_fills → CanBeLearnt seen symbol what
what-fits seen None what is few = tt
what-fits seen (Some symbol) (Submitted kind quantity price limit) is few = tt
what-fits seen (Some symbol) (Updated price) is few = tt
what-fits seen (Some symbol) (Filled fill) is few = (is.0, few)
what-fits seen (Some symbol) Canceled is few = tt
what-fits seen (Some symbol) (Invalid cause) is few = tt

-- an event that has a line, while there is room for a fill
pub event-fits : (seen : Seen) (event : OrderEvent) → IsEvent event → length seen.fills < most_fills → CanLearn seen (Event event)
event-fits seen event is few = what-fits seen event.symbol event.what is.what few
