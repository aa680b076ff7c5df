-- The items of a security rise past the start of their feed and lie within its window, with their numbers in range.
use Rattle.std.proofs.Common.{◌≡◌, ℕ, zero, suc, ◌+◌, ◌-◌, ◌<◌, ◌≤◌, ℤ, pos, ◌<ℤ◌, ◌≤ℤ◌, List, [], ◌∷◌, ◌++◌, Bool, true, refl, sym, subst, arith, inl, inr, map}
use Rattle.std.specs.Prelude.{Option, Some, None, ◌&&◌}
use Rattle.std.specs.List.{All}
use Rattle.std.proofs.lemmas.Bool.Decides.{nat_tests}
use Rattle.std.proofs.lemmas.Bool.{and_from}
use Rattle.std.proofs.lemmas.Int.{ints}
use Rattle.std.proofs.lemmas.List.Elements.{All-nil, All-cons}
use Rattle.lean_fixed.specs.declared.resolution.Resolution.{Resolution}
use Rattle.lean_fixed.specs.declared.resolution.Resolution.TheVariants.{Minute, Hour, Daily}
use Rattle.lean_items.specs.declared.bad.Bad.{Bad}
use Rattle.lean_items.specs.declared.bar.Bar.{Bar}
use Rattle.lean_items.specs.declared.item.Item.TheVariants.{Bar as BarItem}
use Rattle.lean_items.specs.Fits.{is_moment, is_price, is_volume, is_bar_in_range, fits, Rises as ItemsRise}
use Rattle.exchange_hours.specs.Grid.{bar_start}
use Rattle.clock_feeds.specs.Kept.{Kept}
use Rattle.clock_feeds.specs.Bars.{Filling, end_of, ends_at, ends_before, filled, bar_at}
use Rattle.clock_feeds.specs.Feeds.{last_item, items_from, row_items}
use Rattle.clock_feeds.specs.Stands.{Rises}
use Rattle.clock_feeds.specs.Lists.{IsSound, EndsWithin}
use Rattle.clock_feeds.proofs.SearchLemmas.{Each, found, last_holds, each_filtered, none_some}
use Rattle.clock_feeds.proofs.ListLemmas.{bar_given, begins, items_past}

moment_tested : (n : ℕ) → n ≤ 121000000 → is_moment (pos n) ≡ true
moment_tested n h = grind (arith, ints)

starts_before : (resolution : Resolution) (t : ℕ) → bar_start resolution t ≤ t
starts_before Minute t = omega arith
starts_before Hour t = omega arith
starts_before Daily t = omega arith

same_prices : (a b c d e g h : Bool) → (a && b && c && d && e && g && h) ≡ true → (true && true && c && d && e && g && true) ≡ true
same_prices a b c d e g h is = grind arith

no_volume : is_volume (pos 0) ≡ true
no_volume = refl

-- a filled bar has its numbers in range where the row has
pub filled_in_range : (f : Filling) (t : ℕ) (row : Bar) → t ≤ 121000000 → is_bar_in_range row ≡ true → is_bar_in_range (filled f t row) ≡ true
unfolding is_bar_in_range
filled_in_range f t row low is =
    rw (moment_tested (bar_start f.resolution t) (omega (arith, starts_before f.resolution t)), moment_tested t low, no_volume)
    (same_prices (is_moment row.start.0) (is_moment row.end.0) (is_price row.opening.0) (is_price row.high.0) (is_price row.low.0) (is_price row.closing.0) (is_volume row.volume.0) is)

-- the bar at a moment of the window, real or filled
pub bar_sound : (start : ℤ) (f : Filling) (kept : Kept Bar) (t : ℕ) (bar : Bar) → f.last ≤ 121000000 → Each (IsSound start f.last) kept.rows → t ≤ f.last
    → bar_at f kept t ≡ Some bar → IsSound start f.last bar
bar_sound start f kept t bar small sound within is =
    elim (bar_given f kept t bar is) [
      | inl row ↦ (found (ends_at t) (IsSound start f.last) kept.rows bar sound row).1
      | inr fresh ↦ (
          let row = fresh.0 in
          let before : IsSound start f.last row × (ends_before t row ≡ true) =
          last_holds (λ x. IsSound start f.last x × (ends_before t x ≡ true)) _ None row (each_filtered (ends_before t) (IsSound start f.last) kept.rows sound) (λ y e. absurd (none_some e)) fresh.1 in
          let passed : end_of row < t = (let h : ends_before t row ≡ true = before.1 in grind (arith, nat_tests)) in
          let after : start <ℤ pos (end_of row) = subst (λ z. start <ℤ z) before.0.end before.0.after in
          subst (IsSound start f.last) fresh.2 (record {
            end = refl;
            after = omega (arith, ints, after, passed);
            until = within;
            in_range = filled_in_range f t row (omega (arith, small, within)) before.0.in_range;
          })
          )
    ]

pub last_rises : (z : ℤ) (stop : Option Bad) → ItemsRise z (last_item stop ∷ [])
last_rises z None = (refl, tt)
last_rises z (Some bad) = (refl, tt)

bar_fits : (start z : ℤ) (last : ℕ) (bar : Bar) → IsSound start last bar → z <ℤ bar.end.0 → fits z (BarItem bar) ≡ true
bar_fits start z last bar sound above = and_from _ _ (grind (arith, ints)) sound.in_range

rises_by : (start z : ℤ) (f : Filling) (kept : Kept Bar) (n from : ℕ) → f.last ≤ 121000000 → Each (IsSound start f.last) kept.rows
    → f.last + 1 - from ≤ n → ((bar : Bar) → from ≤ end_of bar → IsSound start f.last bar → z <ℤ bar.end.0) → ItemsRise z (items_from f kept from)
rises_by start z f kept zero from small sound e above = subst (ItemsRise z) (sym (items_past f kept from (omega (arith, e)))) (last_rises z kept.stop)
rises_by start z f kept (suc n) from small sound e above =
    elim (begins f kept from) [
      | inl next ↦ (
          let bar = next.0 in
          let is_sound = bar_sound start f kept (end_of bar) bar small sound next.1.until next.1.ends in
          subst (ItemsRise z) (sym next.1.is) (
            bar_fits start z f.last bar is_sound (above bar next.1.since is_sound),
            rises_by start bar.end.0 f kept n (end_of bar + 1) small sound (omega (arith, e, next.1.since, next.1.until))
                (λ later past s. rw (s.end, is_sound.end) (omega (arith, ints, past))),
          )
          )
      | inr last ↦ subst (ItemsRise z) (sym last.is) (last_rises z kept.stop)
    ]

-- the items of a feed rise past its start
pub items_rise : (start : ℤ) (f : Filling) (kept : Kept Bar) (from : ℕ) → f.last ≤ 121000000 → Each (IsSound start f.last) kept.rows → ItemsRise start (items_from f kept from)
items_rise start f kept from small sound = rises_by start start f kept (f.last + 1 - from) from small sound (omega arith) (λ bar low s. s.after)

last_within : (a b : ℤ) (stop : Option Bad) → EndsWithin a b (last_item stop)
last_within a b None = tt
last_within a b (Some bad) = tt

pub alone_within : (a b : ℤ) (stop : Option Bad) → All (EndsWithin a b) (last_item stop ∷ [])
alone_within a b stop = All-cons (EndsWithin a b) (last_item stop) [] (last_within a b stop) (All-nil (EndsWithin a b))

bar_within : (start : ℤ) (last : ℕ) (bar : Bar) → IsSound start last bar → EndsWithin start (pos last) (BarItem bar)
bar_within start last bar s = (s.after, rw s.end (omega (arith, ints, s.until)))

within_by : (start : ℤ) (f : Filling) (kept : Kept Bar) (n from : ℕ) → f.last ≤ 121000000 → Each (IsSound start f.last) kept.rows
    → f.last + 1 - from ≤ n → All (EndsWithin start (pos f.last)) (items_from f kept from)
within_by start f kept zero from small sound e =
    subst (All (EndsWithin start (pos f.last))) (sym (items_past f kept from (omega (arith, e)))) (alone_within start (pos f.last) kept.stop)
within_by start f kept (suc n) from small sound e =
    elim (begins f kept from) [
      | inl next ↦ (
          let bar = next.0 in
          let is_sound = bar_sound start f kept (end_of bar) bar small sound next.1.until next.1.ends in
          subst (All (EndsWithin start (pos f.last))) (sym next.1.is)
          (All-cons (EndsWithin start (pos f.last)) (BarItem bar) (items_from f kept (end_of bar + 1)) (bar_within start f.last bar is_sound)
          (within_by start f kept n (end_of bar + 1) small sound (omega (arith, e, next.1.since, next.1.until))))
          )
      | inr last ↦ subst (All (EndsWithin start (pos f.last))) (sym last.is) (alone_within start (pos f.last) kept.stop)
    ]

-- each row ends past the start of the feed, and not past the end of its window
pub items_within : (start : ℤ) (f : Filling) (kept : Kept Bar) (from : ℕ) → f.last ≤ 121000000 → Each (IsSound start f.last) kept.rows
    → All (EndsWithin start (pos f.last)) (items_from f kept from)
items_within start f kept from small sound = within_by start f kept (f.last + 1 - from) from small sound (omega arith)

-- ---- the kept rows alone

rows_rise_by : (start z : ℤ) (last after : ℕ) (rows : List Bar) (stop : Option Bad) → z ≤ℤ pos after → Each (IsSound start last) rows → Rises after rows
    → ItemsRise z (map BarItem rows ++ last_item stop ∷ [])
rows_rise_by start z last after [] stop low sound rises = last_rises z stop
rows_rise_by start z last after (row ∷ rows) stop low sound rises =
    let here : after < end_of row = rises.0 in
    let above : z <ℤ row.end.0 = rw sound.0.end (omega (arith, ints, low, here)) in
    (bar_fits start z last row sound.0 above, rows_rise_by start row.end.0 last (end_of row) rows stop (rw sound.0.end (omega (arith, ints))) sound.1 rises.1)

pub rows_rise : (start : ℤ) (last after : ℕ) (kept : Kept Bar) → Each (IsSound start last) kept.rows → Rises after kept.rows → ItemsRise start (row_items kept)
rows_rise start last after kept sound rises = first kept.rows sound rises
  where
    first : (rows : List Bar) → Each (IsSound start last) rows → Rises after rows → ItemsRise start (map BarItem rows ++ last_item kept.stop ∷ [])
    first [] s r = last_rises start kept.stop
    first (row ∷ rows) s r = (bar_fits start start last row s.0 s.0.after, rows_rise_by start row.end.0 last (end_of row) rows kept.stop (rw s.0.end (omega (arith, ints))) s.1 r.1)

rows_within_by : (start : ℤ) (last : ℕ) (rows : List Bar) (stop : Option Bad) → Each (IsSound start last) rows → All (EndsWithin start (pos last)) (map BarItem rows ++ last_item stop ∷ [])
rows_within_by start last [] stop sound = alone_within start (pos last) stop
rows_within_by start last (row ∷ rows) stop sound =
    All-cons (EndsWithin start (pos last)) (BarItem row) _ (bar_within start last row sound.0) (rows_within_by start last rows stop sound.1)

pub rows_within : (start : ℤ) (last : ℕ) (kept : Kept Bar) → Each (IsSound start last) kept.rows → All (EndsWithin start (pos last)) (row_items kept)
rows_within start last kept sound = rows_within_by start last kept.rows kept.stop sound
