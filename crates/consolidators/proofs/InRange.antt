-- The test of a bar's ranges is true exactly in them.
use Rattle.std.proofs.Common.{◌≡◌, ℤ, ◌≤ℤ◌, int_le, true, arith}
use Rattle.std.proofs.lemmas.Bool.{and_parts, and_from}
use Rattle.std.proofs.lemmas.Int.{ints}
use Rattle.lean_fixed.specs.Ranges.{IsWithin, is_within, is_moment, is_price, is_volume}
use Rattle.lean_items.specs.declared.bar.Bar.{Bar}
use Rattle.lean_items.specs.Fits.{is_bar_in_range}
use Rattle.consolidators.specs.Pushed.{AreNumbers}

told : (low high n : ℤ) → is_within low high n ≡ true → IsWithin low high n
told low high n h =
    let parts = and_parts (int_le low n) (int_le n high) h in
    let above : int_le low n ≡ true = parts.0 in
    let below : int_le n high ≡ true = parts.1 in
    (grind (arith, ints), grind (arith, ints))

tested : (low high n : ℤ) → IsWithin low high n → is_within low high n ≡ true
tested low high n h =
    let above : low ≤ℤ n = h.0 in
    let below : n ≤ℤ high = h.1 in
    and_from (int_le low n) (int_le n high) (grind (arith, ints)) (grind (arith, ints))

pub numbers_told : (bar : Bar) → is_bar_in_range bar ≡ true → AreNumbers bar
unfolding is_bar_in_range
numbers_told bar h =
    let volume = and_parts _ (is_volume bar.volume.0) h in
    let closing = and_parts _ (is_price bar.closing.0) volume.0 in
    let low = and_parts _ (is_price bar.low.0) closing.0 in
    let high = and_parts _ (is_price bar.high.0) low.0 in
    let opening = and_parts _ (is_price bar.opening.0) high.0 in
    let moments = and_parts (is_moment bar.start.0) (is_moment bar.end.0) opening.0 in
    record {
      start = told _ _ _ moments.0;
      end = told _ _ _ moments.1;
      prices = record {
        opening = told _ _ _ opening.1;
        high = told _ _ _ high.1;
        low = told _ _ _ low.1;
        closing = told _ _ _ closing.1;
      };
      volume = told _ _ _ volume.1;
    }

pub numbers_tested : (bar : Bar) → AreNumbers bar → is_bar_in_range bar ≡ true
unfolding is_bar_in_range
numbers_tested bar n =
    and_from _ _ (and_from _ _ (and_from _ _ (and_from _ _ (and_from _ _ (and_from _ _ (tested _ _ _ n.start) (tested _ _ _ n.end))
    (tested _ _ _ n.prices.opening)) (tested _ _ _ n.prices.high)) (tested _ _ _ n.prices.low)) (tested _ _ _ n.prices.closing)) (tested _ _ _ n.volume)

pub ruleset bar_ranges = (numbers_told, numbers_tested)
