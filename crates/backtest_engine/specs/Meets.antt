-- The slices that an algorithm takes at a moment, in a state.
use Rattle.std.specs.Prelude.{◌≡◌, ℕ, ◌≤◌, false, List, length, map}
use Rattle.std.specs.List.{AllByRecursion as Each}
use Rattle.lean_items.specs.declared.arrival.Arrival.{Arrival}
use Rattle.clock_book.specs.InRange.{IsInRange}
use Rattle.clock_book.specs.Seen.{seen_of}
use Rattle.clock_run.specs.Moments.{is_done_with}
use Rattle.clock_run.specs.Orderly.{NumbersRise}
use Rattle.clock_run.specs.States.{coarse_keys}
use Rattle.backtest_core.specs.Slices.{IsSlice}
use Rattle.backtest_engine.specs.Algorithms.{Own, plan_of}
use Rattle.backtest_engine.specs.Meaning.{State}

-- The slice fits what the core stands for; what the core has seen is what can be seen of the book, whose numbers are in their
-- ranges, and which has no more orders than requests were given; the orders were tried on all marks; no security waits to be
-- removed; and the numbers of their feeds rise.
pub record IsMet (t : ℕ) (slice : List Arrival) (s : State Own) : Type 0 where
  pub takes : IsSlice t s.own.inside.standing slice
  pub seen : s.own.inside.standing.seen ≡ seen_of s.book
  pub most : ℕ
  pub ranged : IsInRange most s.book
  pub orders : length s.book.orders ≤ s.own.inside.standing.requests
  pub tried : s.book.tried ≡ length s.book.marks
  pub kept : Each (λ f. is_done_with s.own.inside.standing.seen f.security ≡ false) s.own.inside.standing.followed
  pub numbers : NumbersRise (length (coarse_keys (plan_of s.own))) s.own.feeds (map (λ f. f.security) s.own.inside.standing.followed)
