-- What is kept of an active security, and the bars for which it stands.
use Rattle.std.specs.Prelude.{◌≡◌, ℕ, ℤ, ◌≤ℤ◌, Bool, true, ◌&&◌, int_le, int_lt, List, [], ◌∷◌, Option, Some, None, option_map, flat_map}
use Rattle.std.specs.List.{AllByRecursion as Each}
use Rattle.std.specs.Option.{option_to_list}
use Rattle.lean_fixed.specs.Ranges.{IsMoment}
use Rattle.lean_fixed.specs.declared.time.Moment.{Moment}
use Rattle.lean_items.specs.declared.bar.Bar.{Bar}
use Rattle.lean_items.specs.Fits.{is_bar_in_range}
use Rattle.consolidators.specs.Buckets.{bucket_of, bucket_end}
use Rattle.lean_orders.specs.declared.desk.Command.{Command}
use Rattle.lean_orders.specs.declared.desk.Command.TheVariants.{Mark}
use Rattle.universe_state.specs.Active.{Active}
use Rattle.clock_run.specs.Histories.{bar_now, fresh_bar}
use Rattle.clock_run.specs.Moments.{price_bar}
use Rattle.backtest_core.specs.declared.watched.Watched.{Watched}
use Rattle.backtest_core.specs.Following.{FollowsBars}
use Rattle.backtest_core.specs.Standing.{Followed, history}

abbrev pub active_in : Watched → Active
active_in w = record { symbol = w.symbol; feed = w.feed; listed = w.listed; marked = w.marked }

abbrev pub first_bar : List Bar → Option Bar
first_bar [] = None
first_bar (bar ∷ bars) = Some bar

-- a moment lies at the end of the last of some bars, or before it
abbrev pub IsLast : ℤ → List Bar → Type 0
IsLast until bars = (m : ℤ) → IsMoment m → Each (λ bar. bar.end.0 ≤ℤ m) bars → until ≤ℤ m

-- a bar may be taken behind bars that ended by a moment
abbrev pub is_behind : Option ℕ → ℤ → Bar → Bool
is_behind None until bar = true
is_behind (Some period) until bar =
    int_le until bar.start.0 && (int_lt bar.start.0 bar.end.0 && int_le bar.end.0 (bucket_end period (bucket_of period bar)))

abbrev pub is_fit : Option ℕ → ℤ → Bar → Bool
is_fit period until bar = is_bar_in_range bar && is_behind period until bar

-- between moments
pub record Watches (w : Watched) (f : Followed) : Type 0 where
  pub active : active_in w ≡ f.security.active
  pub period : w.period ≡ f.security.period
  pub last : IsLast w.until.0 f.bars
  pub follows : FollowsBars w.following.longer w.following.windows f.bars

-- within a moment: its bar, and the last that is given at it
pub record WatchesAt (t : ℕ) (w : Watched) (f : Followed) : Type 0 where
  pub watches : Watches w f
  pub ended : w.ended ≡ bar_now t (history f)
  pub fresh : w.fresh ≡ fresh_bar t (history f)

-- what is told of a security's price at a moment
abbrev pub mark_with : Moment → List ℕ → Option Bar → Option Command
mark_with at symbol ended = option_map (λ bar. Mark at symbol (price_bar bar)) ended

abbrev pub mark_in : Moment → Watched → Option Command
mark_in at w = mark_with at w.symbol w.ended

abbrev pub marks_in : Moment → List Watched → List Command
marks_in at ws = flat_map (λ w. option_to_list (mark_in at w)) ws
