-- The ranges of the numbers of a backtest, over worlds whose bars are in range.
use Rattle.std.specs.Prelude.{◌≡◌, ℕ, ◌≤◌, pos, true, length}
use Rattle.std.specs.List.{AllByRecursion as Each}
use Rattle.lean_fixed.specs.Ranges.{IsMoney, IsPrintedMoment}
use Rattle.lean_items.specs.declared.feed_key.FeedKey.{FeedKey}
use Rattle.lean_items.specs.Fits.{is_bar_in_range}
use Rattle.report_lines.specs.EventLines.{IsEvent}
use Rattle.rule_strategy.specs.Asked.{most_asked}
use Rattle.clock_steps.specs.Runs.{Ran}
use Rattle.clock_book.specs.InRange.{IsInRange}
use Rattle.clock_run.specs.Lines.{Line, Halt, added, removed, happened, closed}
use Rattle.clock_run.specs.Known.{Known, World}
use Rattle.clock_run.specs.States.{State}
use Rattle.clock_run.specs.Moments.{most_requests}

-- the numbers of all bars that are known are in their ranges, at one moment and at each
abbrev pub HasBarsInRange : Known → Type 0
HasBarsInRange known = (key : FeedKey) → Each (λ bar. is_bar_in_range bar ≡ true) (known.bars key)

abbrev pub IsWorldInRange : World → Type 0
IsWorldInRange world = (t : ℕ) → HasBarsInRange (world t)

-- The numbers of a state are in their ranges: those of its book, where what a rule asks for is cut at the greatest number; the
-- equities of its close lines are money; and it has no more orders than requests, and no more of these than there is room for.
pub record IsStateInRange (s : State) : Type 0 where
  pub book : IsInRange most_asked s.book
  pub equities : Each (λ equity. IsMoney equity) s.equities
  pub orders : length s.book.orders ≤ s.requests
  pub requests : s.requests ≤ most_requests

-- the numbers of a line
abbrev pub IsLineInRange : Line → Type 0
IsLineInRange (added t symbol) = Unit {0}
IsLineInRange (removed t symbol) = Unit {0}
IsLineInRange (happened event) = IsEvent event
IsLineInRange (closed t cash equity) = IsMoney cash × IsMoney equity

-- a state in range was left, and lines in range were printed, where their moment can be printed
abbrev pub IsLineAt : ℕ → Line → Type 0
IsLineAt t line = IsPrintedMoment (pos t) → IsLineInRange line

abbrev pub StaysInRange : ℕ → Ran State Line Halt → Type 0
StaysInRange t ran = IsStateInRange ran.state × Each (λ line. IsLineAt t line) ran.lines
