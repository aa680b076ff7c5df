-- What the calls of a core answer.
use Rattle.std.specs.Prelude.{◌≡◌, ◌+◌, ◌≤◌, if◌then◌else◌}
use Rattle.lean_fixed.specs.Ranges.{IsPrintedMoment}
use Rattle.lean_orders.specs.declared.desk.Command.{Command}
use Rattle.lean_orders.specs.declared.desk.Reply.{Reply}
use Rattle.lean_orders.specs.declared.desk.Reply.TheVariants.{Event, Account, Done}
use Rattle.clock_book.specs.Fitting.{IsFitting}
use Rattle.clock_book.specs.Seen.{Seen}
use Rattle.backtest_core.specs.declared.standing.Core.{Core}
use Rattle.backtest_core.specs.declared.stop.Stop.{Stop}
use Rattle.backtest_core.specs.declared.stop.Stop.TheVariants.{NoMemory, Requests, Securities}
use Rattle.backtest_core.specs.Mirror.{CanLearn}
use Rattle.backtest_core.specs.Phases.{is_request, time_of}
use Rattle.backtest_core.specs.Core.{others_of, requests_of}

-- a call stops for want of memory, or for a limit of its own, exactly where it is met
abbrev pub StopsFor : Stop → Stop → Type 0 → Type 0
StopsFor NoMemory limit P = Unit {0}
StopsFor Requests limit P = (limit ≡ Requests) × P
StopsFor Securities limit P = (limit ≡ Securities) × P

-- the moment of an event has a text
abbrev pub HasText : Reply → Type 0
HasText (Event event) = IsPrintedMoment event.at.0
HasText (Account cash equity) = Unit {0}
HasText Done = Unit {0}

-- a reply that a core takes: it can be printed, and what it tells can be learnt
abbrev pub CanHear : Seen → Reply → Type 0
CanHear seen reply = HasText reply × CanLearn seen reply

-- a command that is given is of the moment, its numbers are in their ranges, and there is room for one less
pub record Gives (old new : Core) (command : Command) : Type 0 where
  pub fitting : IsFitting command
  pub time : time_of command ≡ old.commands.at.0
  pub others : others_of new + (if is_request command then 0 else 1) ≤ others_of old
  pub requests : requests_of new + (if is_request command then 1 else 0) ≤ requests_of old
