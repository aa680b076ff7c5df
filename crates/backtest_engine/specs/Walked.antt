-- How the moments of a run end.
use Rattle.std.specs.Prelude.{◌≡◌, ℕ, ◌+◌, ◌-◌, ◌<◌, ◌≤◌, pos, Bool, false, List, [], Option, Some, None, Result, Ok, Err, find, slice_get}
use Rattle.std.specs.List.{All}
use Rattle.lean_fixed.specs.Calendar.{last_day}
use Rattle.lean_items.specs.declared.arrival.Arrival.{Arrival}
use Rattle.lean_items.specs.declared.feed_key.FeedKey.{FeedKey}
use Rattle.lean_items.specs.declared.item.Item.{Item}
use Rattle.lean_items.specs.declared.item.Item.TheVariants as item
use Rattle.lean_items.specs.Given.{end_of}
use Rattle.lean_items.specs.Taken.{Feeds}
use Rattle.clock_book.specs.Books.{Book}
use Rattle.frontier_sync.specs.Heads.{stops, EndsFrom}
use Rattle.report_pages.specs.Printed.{IsTaken, IsFront}
use Rattle.backtest_engine.specs.declared.ending.Cut.{Cut}
use Rattle.backtest_engine.specs.declared.ending.Cut.TheVariants as cut
use Rattle.backtest_engine.specs.declared.ending.Ending.{Ending}
use Rattle.backtest_engine.specs.declared.ending.Ending.TheVariants.{Whole, Refused, Faulted}
use Rattle.backtest_engine.specs.Meaning.{Meaning, State}
use Rattle.backtest_engine.specs.Lists.{slice_at}
use Rattle.backtest_engine.specs.Reports.{limited, malformed, minutes, whole}
use Rattle.backtest_engine.specs.Stands.{AreAt, CoarseFailed}

-- what a head says that ends the moments
abbrev pub IsEnding : List FeedKey → Arrival → Ending → Type 0
IsEnding keys stop Whole = ⊥
IsEnding keys stop (Refused key bad) = (stop.item ≡ item.Bad bad) × (slice_get keys stop.feed.0 ≡ Some key)
IsEnding keys stop Faulted = stop.item ≡ item.Faulted

-- a failed read is behind how a run ended
abbrev pub IfFault : Result Ending Cut → Type 0 → Type 0
IfFault (Ok Whole) P = Unit {0}
IfFault (Ok (Refused key bad)) P = Unit {0}
IfFault (Ok Faulted) P = P
IfFault (Err cut.ReadFault) P = P
IfFault (Err cut.NoMemory) P = Unit {0}
IfFault (Err cut.WriteFault) P = Unit {0}
IfFault (Err (cut.Limited limit)) P = Unit {0}

-- heads that end no earlier than a minute
abbrev pub AllFrom : ℕ → List Arrival → Type 0
AllFrom t heads = All (λ a. EndsFrom (pos t) (end_of a.item)) heads

-- no session closes between two minutes, both left out
abbrev pub NoClose : (ℕ → Bool) → ℕ → ℕ → Type 0
NoClose is_close after until = (u : ℕ) → after < u → u < until → is_close u ≡ false

module _ {Own : Type 0} (m : Meaning Own) (lists : FeedKey → List Item) (first last : ℕ) (s0 : State Own) where
  -- the lines of whole minutes were written
  pub record IsCut (told0 told : Option (List ℕ)) : Type 0 where
    pub count : ℕ
    pub small : count ≤ last + 1 - first
    pub wrote : IsTaken told0 told (minutes m lists first s0 count).lines

  -- At the end of a minute the least of the active feeds whose next item is a malformed line or a failed read has a failed read.
  pub record Faults (coarse : Bool) (now : Feeds) (told0 told : Option (List ℕ)) : Type 0 where
    pub cut : IsCut told0 told
    pub heads : List Arrival
    pub at : AreAt coarse (pos (first + cut.count)) now heads (m.active (minutes m lists first s0 cut.count).state.own)
    pub head : Arrival
    pub found : find (λ (a : Arrival). stops a.item) heads ≡ Some head
    pub failed : head.item ≡ item.Faulted

  abbrev pub IsEnd : Bool → Feeds → (State Own → List FeedKey → Type 0) → Book → Option (List ℕ) → Option (List ℕ) → Result Ending Cut → Type 0
  IsEnd coarse now stands book told0 told (Ok Whole) =
      ((whole m lists first last s0).stop ≡ None) × stands (whole m lists first last s0).state []
      × ((whole m lists first last s0).state.book ≡ book) × IsTaken told0 told (whole m lists first last s0).lines
  IsEnd coarse now stands book told0 told (Ok (Refused key bad)) =
      ((whole m lists first last s0).stop ≡ Some (malformed key bad)) × IsTaken told0 told (whole m lists first last s0).lines
      × (bad.file ≤ last_day)
  IsEnd coarse now stands book told0 told (Ok Faulted) = Faults coarse now told0 told
  IsEnd coarse now stands book told0 told (Err (cut.Limited limit)) =
      ((whole m lists first last s0).stop ≡ Some (limited limit)) × IsTaken told0 told (whole m lists first last s0).lines
  IsEnd coarse now stands book told0 told (Err cut.NoMemory) = IsFront told0 told (whole m lists first last s0).lines
  IsEnd coarse now stands book told0 told (Err cut.WriteFault) = IsFront told0 told (whole m lists first last s0).lines
  IsEnd coarse now stands book told0 told (Err cut.ReadFault) = IsCut told0 told × CoarseFailed coarse now

-- a strategy takes what ends at each moment of a run that is not halted before it
abbrev pub AllMeet : {Own : Type 0} → (ℕ → List Arrival → State Own → Type 0) → Meaning Own → (FeedKey → List Item) → ℕ → ℕ → State Own → Type 0
AllMeet meets m lists first last s0 =
    (count : ℕ) → count ≤ last - first → (minutes m lists first s0 count).stop ≡ None
    → meets (first + count)
    (slice_at lists (pos (first + count)) (m.active (minutes m lists first s0 count).state.own))
    (minutes m lists first s0 count).state
