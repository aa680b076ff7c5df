-- How a run ends, by what a pool gave.
use Rattle.std.specs.Prelude.{◌≡◌, ◌⊎◌, ℕ, ◌+◌, ◌-◌, ◌<◌, ◌≤◌, pos, Bool, List, Option, Some, None, Result, Ok, Err}
use Rattle.lean_items.specs.declared.bad.Bad.{Bad}
use Rattle.lean_items.specs.declared.feed_key.FeedKey.{FeedKey}
use Rattle.lean_items.specs.declared.item.Item.{Item}
use Rattle.lean_items.specs.declared.item.Item.TheVariants as item
use Rattle.lean_items.specs.Taken.{Feeds}
use Rattle.backtest_engine.specs.declared.ended.Ended.{Ended}
use Rattle.backtest_engine.specs.declared.ended.Ended.TheVariants.{Done, BadRow, ReadFault, WriteFault, NoMemory, Limit}
use Rattle.backtest_engine.specs.declared.ending.Cut.{Cut}
use Rattle.backtest_engine.specs.declared.ending.Cut.TheVariants as cut
use Rattle.backtest_engine.specs.declared.ending.Ending.{Ending}
use Rattle.backtest_engine.specs.declared.ending.Ending.TheVariants.{Whole, Refused, Faulted}
use Rattle.backtest_engine.specs.declared.limits.Limit.{Limit as Met}
use Rattle.backtest_engine.specs.Meaning.{Subscription, Meaning, State}
use Rattle.backtest_engine.specs.Reports.{minutes}
use Rattle.backtest_engine.specs.Stands.{CoarseFailed}
use Rattle.backtest_engine.specs.Gave.{AreQuiet, AreSound, IsStop}
use Rattle.backtest_engine.specs.Moved.{moment_at}

-- how a run ends if its last text is written
abbrev pub ended_as : Result Ending Cut → Ended
ended_as (Ok Whole) = Done
ended_as (Ok (Refused key bad)) = BadRow
ended_as (Ok Faulted) = ReadFault
ended_as (Err cut.NoMemory) = NoMemory
ended_as (Err cut.WriteFault) = WriteFault
ended_as (Err cut.ReadFault) = ReadFault
ended_as (Err (cut.Limited limit)) = Limit

-- it ended so, or there was no memory or no writing of that text
abbrev pub EndsAs : Result Ending Cut → Ended → Type 0
EndsAs walked ended = (ended ≡ ended_as walked) ⊎ ((ended ≡ NoMemory) ⊎ (ended ≡ WriteFault))

module _ {Own : Type 0} (m : Meaning Own) (lists : FeedKey → List Item) (first last : ℕ) (s0 : State Own) (coarse : Bool) (gave : Feeds) where
  -- the feeds that are active before a minute
  abbrev pub active_at : ℕ → List Subscription
  active_at t = m.active (minutes m lists first s0 (t - first)).state.own

  -- At a minute the coarse feed's next item does not become a failed read, and neither a limit nor an item stops the run.
  abbrev pub Passes : ℕ → Type 0
  Passes t =
      AreSound gave (pos (t + 1)) (active_at t) × AreQuiet gave (pos (t + 1)) (active_at (t + 1))
      × ((minutes m lists first s0 (t + 1 - first)).stop ≡ None)

  -- the limit that the moment of a minute meets
  abbrev pub limit_at : ℕ → Option Met
  limit_at t = (moment_at m lists coarse t (minutes m lists first s0 (t - first)).state).stop

  -- so it is at all minutes before one
  abbrev pub Passed : ℕ → Type 0
  Passed until = (t : ℕ) → first ≤ t → t < until → Passes t

  -- The run came to a minute and took its slice.
  pub record Took (t : ℕ) : Type 0 where
    pub low : first ≤ t
    pub high : t ≤ last
    pub passed : Passed t
    pub sound : AreSound gave (pos (t + 1)) (active_at t)

  -- behind the moment of a minute a malformed line or a failed read stops the run
  pub record Stops (x : Item) : Type 0 where
    pub at : ℕ
    pub took : Took at
    pub plays : limit_at at ≡ None
    pub stop : IsStop gave (pos (at + 1)) (active_at (at + 1)) x

  -- a limit is met within a minute
  pub record Meets (limit : Met) : Type 0 where
    pub at : ℕ
    pub took : Took at
    pub halts : limit_at at ≡ Some limit

  -- a failed read was taken of the coarse feed by the slice of a minute, before which all passed
  pub record Breaks : Type 0 where
    pub at : ℕ
    pub low : first ≤ at
    pub high : at ≤ last
    pub passed : Passed at
    pub failed : CoarseFailed coarse gave

  -- how the minutes end
  abbrev pub EndsBy : Ended → Type 0
  EndsBy Done = Passed (last + 1)
  EndsBy BadRow = (bad : Bad) × Stops (item.Bad bad)
  EndsBy ReadFault = Stops item.Faulted ⊎ Breaks
  EndsBy Limit = (limit : Met) × Meets limit
  EndsBy WriteFault = Unit {0}
  EndsBy NoMemory = Unit {0}

  -- before the first minute the coarse feed's first item is no failed read
  abbrev pub Starts : Type 0
  Starts = AreSound gave (pos first) (m.active s0.own)

  -- What was given decides how a run ends, but for a write that fails and want of memory.
  abbrev pub IsExact : Ended → Type 0
  IsExact Done = Starts × EndsBy Done
  IsExact BadRow = Starts × EndsBy BadRow
  IsExact Limit = Starts × EndsBy Limit
  IsExact ReadFault = IsStop gave (pos first) (m.active s0.own) item.Faulted ⊎ (Starts × EndsBy ReadFault)
  IsExact WriteFault = Unit {0}
  IsExact NoMemory = Unit {0}
