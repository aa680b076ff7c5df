-- What a moment of a strategy and a desk does, whatever the desk replies.
use Rattle.std.specs.Prelude.{◌≡◌, ℕ, ◌+◌, pos, List, ◌++◌, length, Some, None, Result, Ok, Err}
use Rattle.std.specs.List.{All}
use Rattle.clock_book.specs.Books.{Book}
use Rattle.clock_steps.specs.Runs.{Ran}
use Rattle.lean_items.specs.declared.arrival.Arrival.{Arrival}
use Rattle.lean_items.specs.declared.feed_key.FeedKey.{FeedKey}
use Rattle.lean_items.specs.declared.feed_no.FeedNo.{FeedNo}
use Rattle.backtest_engine.specs.declared.changes.Changes.{Changes}
use Rattle.backtest_engine.specs.declared.limits.Limit.{Limit}
use Rattle.backtest_engine.specs.declared.limits.Stop.{Stop}
use Rattle.backtest_engine.specs.declared.limits.Stop.TheVariants.{NoMemory, Limited}
use Rattle.backtest_engine.specs.Meaning.{Meaning, State, moment_of}
use Rattle.backtest_engine.specs.Turns.{without_all, numbered, IsEquity}

module _ {Own : Type 0} (m : Meaning Own) where
  -- a moment was played whole, and the keys that are added wait for their numbers
  pub record Plays (stands : State Own → List FeedKey → Type 0) (text : List ℕ) (t : ℕ) (began : Own) (ran : Ran (State Own) ℕ Limit) (book : Book) (added : List FeedKey) (removed : List FeedNo) : Type 0 where
    pub stop : ran.stop ≡ None
    pub stand : stands ran.state added
    pub text_is : text ≡ ran.lines
    pub book_is : ran.state.book ≡ book
    pub active : m.active ran.state.own ≡ without_all (m.active began) removed ++ numbered (m.added began) added
    pub added_is : m.added ran.state.own ≡ m.added began + length added
    pub starts : All (λ key. (key.start.0 ≡ pos t) × IsEquity key.kind) added

  -- the same, or a limit was met and the lines before it are there
  abbrev pub IsPlayed : (State Own → List FeedKey → Type 0) → List ℕ → ℕ → List Arrival → State Own → Book → Result Changes Stop → Type 0
  IsPlayed stands text t slice s book (Ok changes) =
      Plays stands text t s.own (moment_of m t slice s) book changes.added.items changes.removed.items
  IsPlayed stands text t slice s book (Err (Limited limit)) =
      ((moment_of m t slice s).stop ≡ Some limit) × (text ≡ (moment_of m t slice s).lines)
  IsPlayed stands text t slice s book (Err NoMemory) = Unit {0}
