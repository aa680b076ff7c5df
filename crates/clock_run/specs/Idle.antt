-- Moments at which nothing happens, and what holds of a state between two moments.
use Rattle.std.specs.Prelude.{◌≡◌, ℕ, false, List, [], length, Option, Some, None}
use Rattle.std.specs.List.{AllByRecursion as Each}
use Rattle.lean_items.specs.declared.coarse_row.CoarseRow.{CoarseRow}
use Rattle.exchange_hours.specs.Grid.{is_closing}
use Rattle.clock_feeds.specs.Bars.{ends_at}
use Rattle.clock_book.specs.Seen.{seen_of}
use Rattle.rule_strategy.specs.declared.universe.UniversePlan.{UniversePlan}
use Rattle.clock_run.specs.Known.{Known}
use Rattle.clock_run.specs.States.{Setup, State, active_keys}
use Rattle.clock_run.specs.Histories.{History, histories}
use Rattle.clock_run.specs.Moments.{is_done_with, first_refused}

-- no choice is due: there is no universe, or no coarse row is known from this moment on
abbrev pub HasNoRows : Option UniversePlan → List CoarseRow → Type 0
HasNoRows None rows = Unit {0}
HasNoRows (Some universe) rows = rows ≡ []

-- no bar of a security ends at a moment
abbrev pub IsQuiet : ℕ → History → Type 0
IsQuiet t h = Each (λ bar. ends_at t bar ≡ false) h.bars

-- the orders were tried on all marks
abbrev pub IsTried : State → Type 0
IsTried s = s.book.tried ≡ length s.book.marks

-- Nothing happens at a moment: no coarse row, no bar and no session ends, no security waits to be removed, no malformed line is
-- due, and the orders were tried on all marks.
pub record IsIdle (setup : Setup) (t : ℕ) (known : Known) (s : State) : Type 0 where
  pub rows : HasNoRows setup.plan.universe known.coarse
  pub quiet : Each (IsQuiet t) (histories known s)
  pub between : is_closing setup.hours t ≡ false
  pub kept : Each (λ security. is_done_with (seen_of s.book) security ≡ false) s.securities
  pub sound : first_refused known (active_keys setup.plan s) ≡ None
  pub tried : IsTried s

-- a state in which a moment that was not halted leaves off
pub record IsSettled (s : State) : Type 0 where
  pub tried : IsTried s
  pub kept : Each (λ security. is_done_with (seen_of s.book) security ≡ false) s.securities
