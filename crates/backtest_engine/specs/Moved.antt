-- What a moment of a run does, and what is known of it whatever was taken and heard.
use Rattle.std.specs.Prelude.{◌≡◌, ℕ, ◌+◌, pos, Bool, List, [], Option, Some, None, Result, Ok, Err}
use Rattle.lean_items.specs.declared.arrival.Arrival.{Arrival}
use Rattle.lean_items.specs.declared.feed_key.FeedKey.{FeedKey}
use Rattle.lean_items.specs.declared.item.Item.{Item}
use Rattle.lean_items.specs.Taken.{Feeds}
use Rattle.lean_orders.specs.declared.desk.Command.{Command}
use Rattle.lean_orders.specs.declared.desk.Reply.{Reply}
use Rattle.clock_book.specs.Books.{Book}
use Rattle.clock_book.specs.Handled.{after}
use Rattle.clock_steps.specs.Runs.{Ran}
use Rattle.report_pages.specs.Printed.{IsTaken, IsFront}
use Rattle.backtest_engine.specs.declared.ending.Cut.{Cut}
use Rattle.backtest_engine.specs.declared.ending.Cut.TheVariants as cut
use Rattle.backtest_engine.specs.declared.limits.Limit.{Limit}
use Rattle.backtest_engine.specs.declared.limits.Stop.{Stop}
use Rattle.backtest_engine.specs.declared.limits.Stop.TheVariants as stop
use Rattle.backtest_engine.specs.Lists.{slice_at}
use Rattle.backtest_engine.specs.Meaning.{Meaning, State, moment_of}
use Rattle.backtest_engine.specs.Phased.{DeskStands}
use Rattle.backtest_engine.specs.Stands.{AreAt, CoarseFailed}
use Rattle.backtest_engine.specs.Gave.{AreSound}

-- a failed read ended a moment
abbrev pub IfReadFault : Result (Unit {0}) Cut → Type 0 → Type 0
IfReadFault (Err cut.ReadFault) P = P
IfReadFault (Err cut.NoMemory) P = Unit {0}
IfReadFault (Err cut.WriteFault) P = Unit {0}
IfReadFault (Err (cut.Limited limit)) P = Unit {0}
IfReadFault (Ok x) P = Unit {0}

-- the lines of a moment were written once it was closed
abbrev pub Settled : List ℕ → Option (List ℕ) → Option (List ℕ) → Result (Unit {0}) Cut → Type 0
Settled text told0 told (Ok x) = IsTaken told0 told text
Settled text told0 told (Err cut.NoMemory) = IsTaken told0 told text
Settled text told0 told (Err cut.WriteFault) = IsFront told0 told text
Settled text told0 told (Err cut.ReadFault) = ⊥
Settled text told0 told (Err (cut.Limited limit)) = ⊥

-- the lines before a limit were written
abbrev pub Halted : List ℕ → Stop → Option (List ℕ) → Option (List ℕ) → Cut → Type 0
Halted text (stop.Limited limit) told0 told (cut.Limited met) = (met ≡ limit) × IsTaken told0 told text
Halted text (stop.Limited limit) told0 told cut.WriteFault = IsFront told0 told text
Halted text (stop.Limited limit) told0 told cut.NoMemory = ⊥
Halted text (stop.Limited limit) told0 told cut.ReadFault = ⊥
Halted text stop.NoMemory told0 told cut.NoMemory = told ≡ told0
Halted text stop.NoMemory told0 told (cut.Limited met) = ⊥
Halted text stop.NoMemory told0 told cut.WriteFault = ⊥
Halted text stop.NoMemory told0 told cut.ReadFault = ⊥

module _ {Own : Type 0} (m : Meaning Own) (lists : FeedKey → List Item) (coarse : Bool) where
  -- a moment over the slice of the feeds that were active before it
  abbrev pub moment_at : ℕ → State Own → Ran (State Own) ℕ Limit
  moment_at t s = moment_of m t (slice_at lists (pos t) (m.active s.own)) s

  -- before a moment: the strategy stands for a state, the desk has the commands and replies so far, and the heads are those of
  -- the active feeds
  pub record Knows (stands : State Own → List FeedKey → Type 0) (desk : DeskStands) (added : ℕ) (feeds : Feeds) (heads : List Arrival) (t : ℕ) (s : State Own) (b : Book) (cs : List Command) (rs : List Reply) : Type 0 where
    pub core_is : stands s []
    pub desk_is : desk b cs rs
    pub book : s.book ≡ after b cs
    pub added_is : m.added s.own ≡ added
    pub at : AreAt coarse (pos t) feeds heads (m.active s.own)

  -- behind a moment
  pub record Goes (stands : State Own → List FeedKey → Type 0) (added : ℕ) (now : Feeds) (heads : List Arrival) (t : ℕ) (s : State Own) (book : Book) (told0 told : Option (List ℕ)) : Type 0 where
    pub stop : (moment_at t s).stop ≡ None
    pub core_is : stands (moment_at t s).state []
    pub book_is : (moment_at t s).state.book ≡ book
    pub added_is : m.added (moment_at t s).state.own ≡ added
    pub at : AreAt coarse (pos (t + 1)) now heads (m.active (moment_at t s).state.own)
    pub wrote : IsTaken told0 told (moment_at t s).lines
    pub sound : AreSound now (pos (t + 1)) (m.active s.own)

  abbrev pub Moved : (State Own → List FeedKey → Type 0) → ℕ → Feeds → List Arrival → ℕ → State Own → Book → Option (List ℕ) → Option (List ℕ) → Result (Unit {0}) Cut → Type 0
  Moved stands added now heads t s book told0 told (Ok x) = Goes stands added now heads t s book told0 told
  Moved stands added now heads t s book told0 told (Err cut.NoMemory) = IsFront told0 told (moment_at t s).lines
  Moved stands added now heads t s book told0 told (Err cut.WriteFault) = IsFront told0 told (moment_at t s).lines
  Moved stands added now heads t s book told0 told (Err cut.ReadFault) = (told ≡ told0) × CoarseFailed coarse now
  Moved stands added now heads t s book told0 told (Err (cut.Limited limit)) =
      ((moment_at t s).stop ≡ Some limit) × IsTaken told0 told (moment_at t s).lines
      × AreSound now (pos (t + 1)) (m.active s.own)
