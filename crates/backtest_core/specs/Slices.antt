-- Which slices a core takes whole. What does not fit is passed over.
use Rattle.std.specs.Prelude.{◌≡◌, ℕ, ◌≤◌, true, pos, ◌≤ℤ◌, List, [], ◌∷◌, Option, Some, None}
use Rattle.std.specs.List.{AllByRecursion as Each}
use Rattle.lean_items.specs.declared.arrival.Arrival.{Arrival}
use Rattle.lean_items.specs.declared.bar.Bar.{Bar}
use Rattle.lean_items.specs.declared.item.Item.{Item}
use Rattle.lean_items.specs.declared.item.Item.TheVariants.{Bar as BarItem, Coarse as CoarseItem, Bad, Faulted, End}
use Rattle.lean_items.specs.Fits.{is_bar_in_range, is_row_in_range}
use Rattle.consolidators.specs.Pushed.{IsPushed}
use Rattle.clock_run.specs.Idle.{IsQuiet}
use Rattle.backtest_core.specs.Standing.{Followed, Standing, history, feed_of}
use Rattle.backtest_core.specs.Inside.{bars_in}

-- a bar may be pushed behind some others, where bars of a longer period are made
abbrev pub IsBehind : Option ℕ → List Bar → Bar → Type 0
IsBehind None bars bar = Unit {0}
IsBehind (Some period) bars bar = IsPushed period bar × Each (λ earlier. earlier.end.0 ≤ℤ bar.start.0) bars

-- a bar ends at the moment, its numbers are in their ranges, and it may be pushed
pub record FitsNow (t : ℕ) (f : Followed) (bar : Bar) : Type 0 where
  pub end : bar.end.0 ≡ pos t
  pub in_range : is_bar_in_range bar ≡ true
  pub behind : IsBehind f.security.period f.bars bar

-- at most one bar of a security, which fits
abbrev pub FitsOnce : ℕ → Followed → List Bar → Type 0
FitsOnce t f [] = Unit {0}
FitsOnce t f (bar ∷ []) = FitsNow t f bar
FitsOnce t f (bar ∷ next ∷ bars) = ⊥

-- the numbers of a coarse row are in their ranges
abbrev pub IsSoundRow : Item → Type 0
IsSoundRow (CoarseItem at row) = is_row_in_range at.0 row ≡ true
IsSoundRow (BarItem bar) = Unit {0}
IsSoundRow (Bad bad) = Unit {0}
IsSoundRow Faulted = Unit {0}
IsSoundRow End = Unit {0}

-- the numbers of the feeds do not fall
abbrev pub AreInOrder : List Arrival → Type 0
AreInOrder [] = Unit {0}
AreInOrder (a ∷ later) = Each (λ b. a.feed.0 ≤ b.feed.0) later × AreInOrder later

abbrev pub FeedsRise : List Followed → Type 0
FeedsRise [] = Unit {0}
FeedsRise (f ∷ later) = Each (λ g. feed_of f ≤ feed_of g) later × FeedsRise later

-- A slice of a moment comes in the order of the feeds. No bar that was known before ends at it, and of each security there is at most one bar, which fits.
pub record IsSlice (t : ℕ) (v : Standing) (slice : List Arrival) : Type 0 where
  pub quiet : Each (λ f. IsQuiet t (history f)) v.followed
  pub bars : Each (λ f. FitsOnce t f (bars_in slice (feed_of f))) v.followed
  pub rows : Each (λ a. IsSoundRow a.item) slice
  pub order : AreInOrder slice
  pub rising : FeedsRise v.followed
