-- What a strategy means, and what one of its moments does: no desk, no pool and no head of a feed occurs here.
use Rattle.std.specs.Prelude.{ℕ, Bool, List, Option, None}
use Rattle.lean_orders.specs.declared.desk.Command.{Command}
use Rattle.lean_orders.specs.declared.desk.Reply.{Reply}
use Rattle.lean_items.specs.declared.arrival.Arrival.{Arrival}
use Rattle.lean_items.specs.declared.feed_key.FeedKey.{FeedKey}
use Rattle.clock_book.specs.Books.{Book}
use Rattle.clock_book.specs.Handled.{after, replies}
use Rattle.clock_steps.specs.Runs.{Ran, before}
use Rattle.backtest_engine.specs.declared.limits.Limit.{Limit}
use Rattle.backtest_engine.specs.declared.phase.Phase.{Phase}
use Rattle.backtest_engine.specs.declared.phase.Phase.TheVariants.{Prices, Rules, Close}

-- an active feed: its number, and its key
pub record Subscription : Type 0 where
  pub feed : ℕ
  pub key : FeedKey

-- what a phase asks of the book, and the limit that is met behind it, if one is
pub record Asked : Type 0 where
  pub commands : List Command
  pub stop : Option Limit

-- what a strategy is after it heard something, and what it prints of it
pub record Told (Own : Type 0) : Type 0 where
  pub own : Own
  pub text : List ℕ

-- a strategy's own state, and the book
pub record State (Own : Type 0) : Type 0 where
  pub own : Own
  pub book : Book

-- what a strategy does, by its own state and by the book
pub record Meaning (Own : Type 0) : Type 0 where
  -- the active feeds, by rising numbers, and how many were ever added
  pub active : Own → List Subscription
  pub added : Own → ℕ
  -- whether a session closes at a moment
  pub is_close : ℕ → Bool
  -- a moment's slice arrives
  pub arrive : ℕ → List Arrival → Own → Ran Own ℕ Limit
  -- what a phase asks, and what is made of the replies
  pub ask : Phase → ℕ → List Arrival → State Own → Asked
  pub hear : Phase → ℕ → List Arrival → State Own → List Reply → Told Own
  -- what is removed and added behind the moment
  pub close : ℕ → List Arrival → State Own → Told Own
  -- what is printed behind the last moment
  pub summary : State Own → List ℕ

module _ {Own : Type 0} (m : Meaning Own) where
  -- a part of a moment
  abbrev pub Part : Type 0
  Part = State Own → Ran (State Own) ℕ Limit

  abbrev pub arrival_of : ℕ → List Arrival → Part
  arrival_of t slice s =
      let ran = m.arrive t slice s.own in
      record { lines = ran.lines; state = record { own = ran.state; book = s.book }; stop = ran.stop }

  -- In a phase the book handles all that is asked, and then all that it replies is heard.
  abbrev pub phase : Phase → ℕ → List Arrival → Part
  phase p t slice s =
      let asked = m.ask p t slice s in
      let told = m.hear p t slice s (replies s.book asked.commands) in
      record {
        lines = told.text;
        state = record { own = told.own; book = after s.book asked.commands };
        stop = asked.stop;
      }

  abbrev pub close_of : ℕ → List Arrival → Part
  close_of t slice s =
      let told = m.close t slice s in
      record { lines = told.text; state = record { own = told.own; book = s.book }; stop = None }

  -- One moment: the slice arrives, the three phases, and the close of the moment. A limit leaves out what is behind it.
  abbrev pub behind_rules : ℕ → List Arrival → Part
  behind_rules t slice s = before (phase Close t slice s) (close_of t slice)

  abbrev pub behind_prices : ℕ → List Arrival → Part
  behind_prices t slice s = before (phase Rules t slice s) (behind_rules t slice)

  abbrev pub behind_arrival : ℕ → List Arrival → Part
  behind_arrival t slice s = before (phase Prices t slice s) (behind_prices t slice)

  unfoldable pub moment_of : ℕ → List Arrival → Part
  moment_of t slice s = before (arrival_of t slice s) (behind_arrival t slice)
