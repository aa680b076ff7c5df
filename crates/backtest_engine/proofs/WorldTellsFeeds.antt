-- What a folder's list of any key tells of its feed.
use Rattle.std.proofs.Common.{◌≡◌, ℕ, zero, suc, ◌+◌, ◌-◌, ◌*◌, ◌/◌, ◌<◌, ◌≤◌, false, ℤ, pos, ◌+ℤ◌, ◌*ℤ◌, ◌≤ℤ◌, ◌<ℤ◌, List, [], ◌∷◌, ◌++◌, map, Option, Some, None, refl, sym, ap, ◌∙◌, subst, arith, inl, inr}
use Rattle.std.specs.Prelude.{◌==◌, option_to_list}
use Rattle.std.specs.Int.{int_div_euclid}
use Rattle.std.specs.List.{AllByRecursion as Each}
use Rattle.std.proofs.lemmas.Bool.{cases_lt}
use Rattle.std.proofs.lemmas.Bool.Decides.{nat_tests}
use Rattle.std.proofs.lemmas.Int.{ints}
use Rattle.lean_fixed.specs.Moments.{last_moment}
use Rattle.lean_fixed.specs.Ranges.{IsWindow}
use Rattle.lean_fixed.specs.declared.resolution.Resolution.{Resolution}
use Rattle.lean_fixed.specs.declared.resolution.Resolution.TheVariants.{Minute, Hour, Daily}
use Rattle.lean_fixed.specs.declared.time.Window.{Window}
use Rattle.lean_io.specs.Told.{Files}
use Rattle.lean_items.specs.declared.bar.Bar.{Bar}
use Rattle.lean_items.specs.declared.coarse_row.CoarseRow.{CoarseRow}
use Rattle.lean_items.specs.declared.feed_key.FeedKey.{FeedKey}
use Rattle.lean_items.specs.declared.feed_key.FeedKind.{FeedKind}
use Rattle.lean_items.specs.declared.feed_key.FeedKind.TheVariants.{Coarse, Equity}
use Rattle.lean_items.specs.declared.item.Item.{Item}
use Rattle.lean_items.specs.declared.item.Item.TheVariants.{Bar as BarItem}
use Rattle.exchange_hours.specs.Entries.{Entries}
use Rattle.exchange_hours.specs.Sessions.{LieInDays}
use Rattle.consolidators.specs.Pushed.{IsPushed}
use Rattle.consolidators.proofs.InRange.{numbers_told}
use Rattle.rule_strategy.specs.Validity.{IsPeriod}
use Rattle.clock_feeds.specs.Kept.{Kept}
use Rattle.clock_feeds.specs.Bars.{Filling, end_of, bar_at}
use Rattle.clock_feeds.specs.Bars as bars
use Rattle.clock_feeds.specs.Feeds.{last_item, items_from, coarse_item, bars_of, coarse_of, filling_of, feed_of}
use Rattle.clock_feeds.specs.Grid.{start_of, HoldsWhole, LiesInPeriod}
use Rattle.clock_feeds.specs.Known.{bars_by, feed_bars_of}
use Rattle.clock_feeds.specs.Lists.{IsSound, IsSoundRow}
use Rattle.clock_feeds.specs.Slices.{source}
use Rattle.clock_feeds.specs.Stands.{EndBy}
use Rattle.clock_feeds.proofs.FeedLemmas.{last_small, kept_are, coarse_are}
use Rattle.clock_feeds.proofs.GrowLemmas as grown
use Rattle.clock_feeds.proofs.KeyLemmas.{ends, bars_told_of, known_sound}
use Rattle.clock_feeds.proofs.ListLemmas.{begins, items_past, bar_ends}
use Rattle.clock_feeds.proofs.OnGridLemmas.{feed_on_grid, in_period, behind_all}
use Rattle.clock_feeds.proofs.RiseLemmas.{bar_sound}
use Rattle.clock_feeds.proofs.SearchLemmas.{none_some}
use Rattle.clock_feeds.proofs.SliceLemmas.{bar_late}
use Rattle.backtest_core.specs.Slices.{IsBehind, FitsOnce}
use Rattle.backtest_core.specs.Standing.{Followed}
use Rattle.backtest_engine.specs.Tells.{HasPeriod, bars_ending}
use Rattle.backtest_engine.proofs.WorldTellsLists.{IsGood, last-good, bars-same}

-- ---- what holds of each bar that ends in the window and of the last item holds of each item

each-by : (P : Item → Type 0) (f : Filling) (kept : Kept Bar) (n from : ℕ) → f.last + 1 - from ≤ n
    → ((bar : Bar) → bar_at f kept (end_of bar) ≡ Some bar → end_of bar ≤ f.last → P (BarItem bar)) → P (last_item kept.stop) → Each P (items_from f kept from)
each-by P f kept zero from e bar_is last = subst (Each P) (sym (items_past f kept from (omega (arith, e)))) (last, tt)
each-by P f kept (suc n) from e bar_is last =
    elim (begins f kept from) [
      | inl next ↦ subst (Each P) (sym next.1.is)
          (bar_is next.0 next.1.ends next.1.until, each-by P f kept n (end_of next.0 + 1) (omega (arith, e, next.1.since, next.1.until)) bar_is last)
      | inr end ↦ subst (Each P) (sym end.is) (last, tt)
    ]

each-row : (start : ℤ) (last : ℕ) (rows : List (ℕ × CoarseRow)) (item : Item) → Each (IsSoundRow start last) rows → IsGood start item
    → Each (IsGood start) (map coarse_item rows ++ item ∷ [])
each-row start last [] item sound good = (good, tt)
each-row start last (row ∷ rows) item sound good = ((refl, sound.0.after, sound.0.in_range), each-row start last rows item sound.1 good)

-- no bar that ends by a moment ends at the next
pub quiet-by : (t : ℕ) (xs : List Bar) → EndBy t xs → Each (λ bar. bars.ends_at (t + 1) bar ≡ false) xs
quiet-by t [] by = tt
quiet-by t (bar ∷ xs) by = (apart (end_of bar) by.0, quiet-by t xs by.1)
  where
    apart : (n : ℕ) → n ≤ t → (n == t + 1) ≡ false
    apart n low = grind (arith, nat_tests)

-- ---- bars that are pushed

whole-periods : (resolution : Resolution) (period : ℕ) → IsPeriod resolution (Some period) → HoldsWhole resolution period
whole-periods Minute period is = (omega (arith, is.0), omega arith)
whole-periods Hour period is = (omega (arith, is.0), is.2)
whole-periods Daily period is = absurd is

in-bucket : (start end : ℤ) (s e period : ℕ) → start ≡ pos s → end ≡ pos e → e ≤ s / period * period + period
    → end ≤ℤ (int_div_euclid start (pos period) *ℤ pos period +ℤ pos period)
in-bucket start end s e period start_is end_is within =
    subst (λ z. end ≤ℤ (int_div_euclid z (pos period) *ℤ pos period +ℤ pos period)) (sym start_is)
    (subst (λ z. z ≤ℤ (pos (s / period) *ℤ pos period +ℤ pos period)) (sym end_is) (plain e (s / period * period) period within))
  where
    plain : (e q p : ℕ) → e ≤ q + p → pos e ≤ℤ (pos q +ℤ pos p)
    plain e q p le = omega (arith, ints, le)

pushed : (start : ℤ) (last period : ℕ) (bar : Bar) → IsSound start last bar → LiesInPeriod period bar → IsPushed period bar
pushed start last period bar sound lies = record {
  numbers = numbers_told bar sound.in_range;
  after = rises bar.start.0 bar.end.0 (start_of bar) (end_of bar) lies.start lies.end lies.lasts;
  within = in-bucket bar.start.0 bar.end.0 (start_of bar) (end_of bar) period lies.start lies.end lies.within;
}
  where
    rises : (a b : ℤ) (s e : ℕ) → a ≡ pos s → b ≡ pos e → s < e → a <ℤ b
    rises a b s e a_is b_is less = omega (arith, ints, a_is, b_is, less)

earlier-all : (start from : ℤ) (last at : ℕ) (xs : List Bar) → from ≡ pos at → Each (IsSound start last) xs → EndBy at xs → Each (λ earlier. earlier.end.0 ≤ℤ from) xs
earlier-all start from last at [] is sound by = tt
earlier-all start from last at (bar ∷ xs) is sound by = (one bar.end.0 (end_of bar) sound.0.end by.0, earlier-all start from last at xs is sound.1 by.1)
  where
    one : (z : ℤ) (n : ℕ) → z ≡ pos n → n ≤ at → z ≤ℤ from
    one z n z_is low = omega (arith, ints, is, z_is, low)

module _ (files : Files) (hours : Entries) (window : Window) (key : FeedKey) (every : LieInDays hours) (is_window : IsWindow window) where
  abbrev found : List ℕ → Resolution → ℕ → Option Bar
  found symbol resolution t = bar_at (filling_of hours window key resolution) (bars_of files hours window key symbol resolution) t

  abbrev last : ℕ
  last = last_moment window

  within-sound : (symbol : List ℕ) (resolution : Resolution) → key.kind ≡ Equity symbol resolution → (t : ℕ) (bar : Bar) → t ≤ last
      → found symbol resolution t ≡ Some bar → IsSound key.start.0 last bar
  within-sound symbol resolution is t bar within here =
      bar_sound key.start.0 (filling_of hours window key resolution) (bars_of files hours window key symbol resolution) t bar (last_small window is_window)
      (kept_are files hours window key symbol resolution every is_window is).0 within here

  found-sound : (symbol : List ℕ) (resolution : Resolution) → key.kind ≡ Equity symbol resolution → (t : ℕ) (bar : Bar)
      → found symbol resolution t ≡ Some bar → IsSound key.start.0 last bar
  found-sound symbol resolution is t bar here =
      elim (cases_lt last t) [
        | inl past ↦ absurd (none_some (sym (bar_late (filling_of hours window key resolution) (bars_of files hours window key symbol resolution) t
            (ends files hours window key every is_window symbol resolution is) past) ∙ here))
        | inr within ↦ within-sound symbol resolution is t bar within here
      ]

  -- each item of a list is sound
  pub good : (kind : FeedKind) → key.kind ≡ kind → Each (IsGood key.start.0) (feed_of files hours window key kind)
  good Coarse is =
      each-row key.start.0 last (coarse_of files hours window key).rows (last_item (coarse_of files hours window key).stop) (coarse_are files hours window key is_window is).0
      (last-good key.start.0 (coarse_of files hours window key).stop)
  good (Equity symbol resolution) is =
      each-by (IsGood key.start.0) (filling_of hours window key resolution) (bars_of files hours window key symbol resolution) (last + 1) 0 (omega arith)
      (λ bar here within. let s = within-sound symbol resolution is (end_of bar) bar within here in (s.end, s.after, s.in_range))
      (last-good key.start.0 (bars_of files hours window key symbol resolution).stop)

  pub quiet : (kind : FeedKind) (t : ℕ) → Each (λ bar. bars.ends_at (t + 1) bar ≡ false) (feed_bars_of files hours window key kind t)
  quiet Coarse t = tt
  quiet (Equity symbol resolution) t = quiet-by t (bars_by (source files hours window key symbol resolution) t) (grown.end (source files hours window key symbol resolution) t)

  behind : (symbol : List ℕ) (resolution : Resolution) → key.kind ≡ Equity symbol resolution → (period : Option ℕ) → IsPeriod resolution period → (t : ℕ) (bar : Bar)
      → found symbol resolution (t + 1) ≡ Some bar → IsBehind period (bars_by (source files hours window key symbol resolution) t) bar
  behind symbol resolution is None valid t bar here = tt
  behind symbol resolution is (Some period) valid t bar here =
      let grid = feed_on_grid files hours window key symbol resolution (t + 1) bar here in
      let lies = in_period hours resolution period bar every (whole-periods resolution period valid) grid in (
        pushed key.start.0 last period bar (found-sound symbol resolution is (t + 1) bar here) lies,
        earlier-all key.start.0 bar.start.0 last (start_of bar) (bars_by (source files hours window key symbol resolution) t) lies.start
            (known_sound files hours window key every is_window (Equity symbol resolution) is t)
            (behind_all files hours window key symbol resolution t (t + 1) bar every (omega arith) here),
      )

  -- at most one bar of a security ends at a moment, and it fits behind those before it
  pub once : (f : Followed) (kind : FeedKind) → key.kind ≡ kind → (t : ℕ) → HasPeriod kind f → f.bars ≡ feed_bars_of files hours window key kind t
      → FitsOnce (t + 1) f (bars_ending (t + 1) (feed_of files hours window key kind))
  once f Coarse is t valid known = absurd valid
  once f (Equity symbol resolution) is t valid known =
      let list = feed_of files hours window key (Equity symbol resolution) in
      subst (FitsOnce (t + 1) f)
      (sym (bars-same key.start.0 (t + 1) list (good (Equity symbol resolution) is) ∙ bars_told_of files hours window key every is_window symbol resolution is (t + 1)))
      (by (found symbol resolution (t + 1)) refl)
    where
      by : (o : Option Bar) → found symbol resolution (t + 1) ≡ o → FitsOnce (t + 1) f (option_to_list o)
      by None here = tt
      by (Some bar) here =
          let sound = found-sound symbol resolution is (t + 1) bar here in
          record {
            end = sound.end ∙ ap pos (bar_ends (filling_of hours window key resolution) (bars_of files hours window key symbol resolution) (t + 1) bar here);
            in_range = sound.in_range;
            behind = subst (λ xs. IsBehind f.security.period xs bar) (sym known) (behind symbol resolution is f.security.period valid t bar here);
          }
