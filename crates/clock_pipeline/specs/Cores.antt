-- The core of a pipeline between two moments: the state of a backtest, in which what the replies tell stands in the place of the
-- book.
use Rattle.std.specs.Prelude.{ℕ, ℤ, List, [], ◌++◌, map}
use Rattle.lean_items.specs.declared.bar.Bar.{Bar}
use Rattle.lean_items.specs.declared.coarse_row.CoarseRow.{CoarseRow}
use Rattle.lean_items.specs.declared.feed_key.FeedKey.{FeedKey}
use Rattle.lean_orders.specs.declared.desk.Command.{Command}
use Rattle.lean_orders.specs.declared.desk.Reply.{Reply}
use Rattle.clock_steps.specs.Runs.{Ran}
use Rattle.clock_book.specs.Books.{Book, new_book}
use Rattle.clock_book.specs.Seen.{Seen, seen_of}
use Rattle.clock_run.specs.Lines.{Line, Halt}
use Rattle.clock_run.specs.Histories.{History}
use Rattle.clock_run.specs.States.{Setup, Subscription, symbol_of, coarse_keys, opening as opening_state}

-- The active securities, the keys of all feeds that were ever added by their numbers, what is seen of the book, how many requests
-- were handled, the equities of the close lines; all commands that were asked; and the replies that were heard to those that
-- are asked next.
pub record Core : Type 0 where
  pub securities : List Subscription
  pub keys : List FeedKey
  pub seen : Seen
  pub requests : ℕ
  pub equities : List ℤ
  pub asked : List Command
  pub heard : List Reply

-- what the core sees of the feeds at a moment: the bars of each security up to it, and the coarse rows that are known from it on
pub record View : Type 0 where
  pub bars : Subscription → List Bar
  pub rows : List CoarseRow

-- where a moment does not go on: not all replies were heard to what was asked, or it halts as the backtest does
pub data Pause : Type 0 where
  waits : Pause
  halts : Halt → Pause

-- a part of a moment
abbrev pub Part : Type 0
Part = Core → Ran Core Line Pause

abbrev pub history_in : View → Subscription → History
history_in view security =
    record { symbol = symbol_of security; period = security.period; bars = view.bars security }

abbrev pub histories_in : View → Core → List History
histories_in view c = map (history_in view) c.securities

-- the number of the feed of a security
abbrev pub number_of : Subscription → ℕ
number_of security = security.active.feed.0

-- the book before any command
abbrev pub first_book : Setup → Book
first_book setup = new_book setup.plan.cash.0 setup.plan.costs setup.plan.leverage setup.hours

-- the keys of the feeds with which a backtest begins
abbrev pub first_keys : Setup → List FeedKey
first_keys setup = coarse_keys setup.plan ++ map (λ security. security.key) (opening_state setup).securities

-- the core before the first moment, where these are all replies that were heard
abbrev pub opening : Setup → List Reply → Core
opening setup heard = record {
  securities = (opening_state setup).securities;
  keys = first_keys setup;
  seen = seen_of (first_book setup);
  requests = 0;
  equities = [];
  asked = [];
  heard = heard;
}
