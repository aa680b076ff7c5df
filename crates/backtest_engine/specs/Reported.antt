-- What a run has written when it ends.
use Rattle.std.specs.Prelude.{◌≡◌, ◌⊎◌, ℕ, pos, ◌≤ℤ◌, Bool, List, Option, Some, None, Result, Ok, Err, length}
use Rattle.std.specs.List.{All}
use Rattle.lean_items.specs.declared.feed_key.FeedKey.{FeedKey}
use Rattle.lean_items.specs.declared.item.Item.{Item}
use Rattle.lean_items.specs.Taken.{Feeds}
use Rattle.clock_book.specs.Books.{Book}
use Rattle.report_pages.specs.Printed.{IsTaken, IsFront}
use Rattle.backtest_engine.specs.declared.ended.Ended.{Ended}
use Rattle.backtest_engine.specs.declared.ended.Ended.TheVariants.{Done, BadRow, ReadFault, WriteFault, NoMemory, Limit}
use Rattle.backtest_engine.specs.declared.ending.Cut.{Cut}
use Rattle.backtest_engine.specs.declared.ending.Cut.TheVariants as cut
use Rattle.backtest_engine.specs.declared.ending.Ending.{Ending}
use Rattle.backtest_engine.specs.declared.ending.Ending.TheVariants.{Whole, Refused, Faulted}
use Rattle.backtest_engine.specs.Meaning.{Subscription, Meaning, State}
use Rattle.backtest_engine.specs.Turns.{IsEquity, numbered}
use Rattle.backtest_engine.specs.Reports.{Halt, limited, malformed, whole, report_of}
use Rattle.backtest_engine.specs.Stands.{CoarseFailed, MayStart}
use Rattle.backtest_engine.specs.Walked.{IsCut, Faults}

-- A feed that is there from the first moment on may start then; of a security nothing ends before that.
pub record MayOpen (coarse : Bool) (first : ℕ) (f : Subscription) : Type 0 where
  pub start : MayStart coarse (pos first) f
  pub late : IsEquity f.key.kind → pos first ≤ℤ f.key.start.0

-- the state with which a run begins: its active feeds are those of some keys, numbered from 0 on
pub record IsOpening {Own : Type 0} (m : Meaning Own) (coarse : Bool) (first : ℕ) (keys : List FeedKey) (s : State Own) (b : Book) : Type 0 where
  pub book : s.book ≡ b
  pub active : m.active s.own ≡ numbered 0 keys
  pub added : m.added s.own ≡ length keys
  pub may : All (MayOpen coarse first) (numbered 0 keys)

-- how the definition ends
abbrev pub ended_by : Option Halt → Ended
ended_by None = Done
ended_by (Some (limited limit)) = Limit
ended_by (Some (malformed key bad)) = BadRow

-- a failed read ended the moments
abbrev pub IsFault : Result Ending Cut → Type 0
IsFault (Ok Whole) = ⊥
IsFault (Ok (Refused key bad)) = ⊥
IsFault (Ok Faulted) = Unit {0}
IsFault (Err cut.ReadFault) = Unit {0}
IsFault (Err cut.NoMemory) = ⊥
IsFault (Err cut.WriteFault) = ⊥
IsFault (Err (cut.Limited limit)) = ⊥

-- all moments were played
abbrev pub IfWhole : Result Ending Cut → Type 0 → Type 0
IfWhole (Ok Whole) P = P
IfWhole (Ok (Refused key bad)) P = Unit {0}
IfWhole (Ok Faulted) P = Unit {0}
IfWhole (Err cut) P = Unit {0}

module _ {Own : Type 0} (m : Meaning Own) (lists : FeedKey → List Item) (first last : ℕ) (s : State Own) where
  -- the report, and a front of it
  abbrev pub IsReported : Option (List ℕ) → Option (List ℕ) → Type 0
  IsReported told0 told = IsTaken told0 told (report_of m (whole m lists first last s))

  abbrev pub IsReportFront : Option (List ℕ) → Option (List ℕ) → Type 0
  IsReportFront told0 told = IsFront told0 told (report_of m (whole m lists first last s))

  -- What the sink took of a run, by how it ended. Where it is whole, or names a malformed line or a limit, the definition ends so.
  abbrev pub IsReport : Bool → Feeds → Option (List ℕ) → Option (List ℕ) → Ended → Type 0
  IsReport coarse now told0 told Done = (Done ≡ ended_by (whole m lists first last s).stop) × IsReported told0 told
  IsReport coarse now told0 told BadRow = (BadRow ≡ ended_by (whole m lists first last s).stop) × IsReported told0 told
  IsReport coarse now told0 told Limit = (Limit ≡ ended_by (whole m lists first last s).stop) × IsReported told0 told
  IsReport coarse now told0 told ReadFault =
      Faults m lists first last s coarse now told0 told ⊎ (IsCut m lists first last s told0 told × CoarseFailed coarse now)
  IsReport coarse now told0 told WriteFault = IsReportFront told0 told
  IsReport coarse now told0 told NoMemory = IsReportFront told0 told
