-- What is true of the lists of all feeds.
use Rattle.std.proofs.Common.{◌≡◌, ℕ, ◌+◌, ◌*◌, ◌^◌, ◌<◌, ◌≤◌, ℤ, pos, negsuc, ◌<ℤ◌, ◌≤ℤ◌, int_le, List, [], ◌∷◌, ◌++◌, Bool, true, false, refl, sym, ap, subst, arith, map, length}
use Rattle.std.specs.Prelude.{Option, Some, None, ◌==◌, filter, cond, if◌then◌else◌}
use Rattle.std.specs.List.{All, cons_option}
use Rattle.std.proofs.lemmas.Bool.{and_from}
use Rattle.std.proofs.lemmas.Int.{ints}
use Rattle.std.proofs.lemmas.List.Elements.{All-nil, All-cons}
use Rattle.lean_fixed.specs.Moments.{last_moment}
use Rattle.lean_fixed.specs.Ranges.{IsWindow}
use Rattle.lean_fixed.specs.declared.resolution.Resolution.{Resolution}
use Rattle.lean_fixed.specs.declared.time.Window.{Window}
use Rattle.lean_io.specs.Told.{Files}
use Rattle.lean_items.specs.declared.bad.Bad.{Bad}
use Rattle.lean_items.specs.declared.bar.Bar.{Bar}
use Rattle.lean_items.specs.declared.coarse_row.CoarseRow.{CoarseRow}
use Rattle.lean_items.specs.declared.feed_key.FeedKey.{FeedKey}
use Rattle.lean_items.specs.declared.feed_key.FeedKind.{FeedKind}
use Rattle.lean_items.specs.declared.feed_key.FeedKind.TheVariants.{Coarse, Equity}
use Rattle.lean_items.specs.declared.item.Item.{Item}
use Rattle.lean_items.specs.declared.item.Item.TheVariants.{Bar as BarItem}
use Rattle.lean_items.specs.Fits.{fits, Rises as ItemsRise}
use Rattle.lean_items.specs.Given.{IsRow}
use Rattle.exchange_hours.specs.Entries.{Entries}
use Rattle.exchange_hours.specs.Sessions.{LieInDays}
use Rattle.feed_paths.specs.Files.{from_1970, files_of, files as numbers}
use Rattle.clock_feeds.specs.Raw.{equity_raw, coarse_raw}
use Rattle.clock_feeds.specs.Kept.{Kept, cut, kept_bars, kept_coarse_row, kept_coarse}
use Rattle.clock_feeds.specs.Bars.{end_of}
use Rattle.clock_feeds.specs.Feeds.{last_item, coarse_item, coarse_items, bars_of, coarse_of, filling_of, rows_of, rows, feed_of, feed}
use Rattle.clock_feeds.specs.Slices.{coarse_at}
use Rattle.clock_feeds.specs.Stands.{Rises}
use Rattle.clock_feeds.specs.Lists.{IsSound, IsSoundRow, RowsRise, IsWhole, EndsWithin, rows_ending}
use Rattle.clock_feeds.proofs.SearchLemmas.{Each}
use Rattle.clock_feeds.proofs.ListLemmas.{items_whole, items_length}
use Rattle.clock_feeds.proofs.RiseLemmas.{items_rise, items_within, rows_rise, rows_within, last_rises, alone_within}
use Rattle.clock_feeds.proofs.SliceLemmas.{plain_items}
use Rattle.clock_feeds.proofs.CutLemmas.{bars_kept, rows_kept, sound_end, cut_short, mapped_short, rows_short}
use Rattle.clock_feeds.proofs.FileRowLemmas.{raw_climbs}
use Rattle.clock_feeds.proofs.CoarseLemmas.{raw_climbs as coarse_climbs, raw_count}

pub last_small : (window : Window) → IsWindow window → last_moment window ≤ 121000000
last_small window is = let h = is.last in omega (arith, ints, h.0, h.1)

-- a moment past the start of a feed lies past its number from 1970 on
past_start : (start : ℤ) (end : ℕ) → 0 < end → start <ℤ pos end → from_1970 start < end
past_start (pos n) end up above = omega (arith, ints, above)
past_start (negsuc n) end up above = omega (arith, up)

-- ---- the kept rows of a key

pub kept_are : (files : Files) (hours : Entries) (window : Window) (key : FeedKey) (symbol : List ℕ) (resolution : Resolution) → LieInDays hours → IsWindow window
    → key.kind ≡ Equity symbol resolution
    → Each (IsSound key.start.0 (last_moment window)) (bars_of files hours window key symbol resolution).rows
    × Rises (from_1970 key.start.0) (bars_of files hours window key symbol resolution).rows
unfolding bars_of
kept_are files hours window key symbol resolution every is_window is =
    let kind : numbers key window hours ≡ files_of (Equity symbol resolution) key.start.0 window hours = ap (λ k. files_of k key.start.0 window hours) is in
    let climbs = raw_climbs files hours symbol resolution key.start.0 window every is_window in
    let kept = bars_kept hours key.start.0 (last_moment window) 121000000 (equity_raw files hours symbol resolution (files_of (Equity symbol resolution) key.start.0 window hours)) 0 (from_1970 key.start.0)
    (last_small window is_window) climbs (past_start key.start.0) in
    subst (λ ns. Each (IsSound key.start.0 (last_moment window)) (kept_bars hours key.start.0 (last_moment window) (equity_raw files hours symbol resolution ns)).rows
    × Rises (from_1970 key.start.0) (kept_bars hours key.start.0 (last_moment window) (equity_raw files hours symbol resolution ns)).rows) (sym kind) kept

pub coarse_are : (files : Files) (hours : Entries) (window : Window) (key : FeedKey) → IsWindow window → key.kind ≡ Coarse
    → Each (IsSoundRow key.start.0 (last_moment window)) (coarse_of files hours window key).rows
    × RowsRise 0 (coarse_of files hours window key).rows
unfolding coarse_of
coarse_are files hours window key is_window is =
    let kind : numbers key window hours ≡ files_of Coarse key.start.0 window hours = ap (λ k. files_of k key.start.0 window hours) is in
    let climbs = coarse_climbs files hours key.start.0 window is_window in
    let kept = rows_kept key.start.0 (last_moment window) 121000000 (coarse_raw files (files_of Coarse key.start.0 window hours)) 0 0 (last_small window is_window) climbs (omega arith) in
    subst (λ ns. Each (IsSoundRow key.start.0 (last_moment window)) (kept_coarse key.start.0 (last_moment window) (coarse_raw files ns)).rows
    × RowsRise 0 (kept_coarse key.start.0 (last_moment window) (coarse_raw files ns)).rows) (sym kind) kept

-- ---- the items of coarse rows

row_fits : (start z : ℤ) (last : ℕ) (row : ℕ × CoarseRow) → IsSoundRow start last row → z ≤ℤ pos row.0 → fits z (coarse_item row) ≡ true
row_fits start z last row sound low = and_from (int_le z (pos row.0)) _ (grind (arith, ints)) sound.in_range

coarse_rise_by : (start z : ℤ) (last after : ℕ) (all : List (ℕ × CoarseRow)) (stop : Option Bad) → z ≤ℤ pos after → Each (IsSoundRow start last) all → RowsRise after all
    → ItemsRise z (map coarse_item all ++ last_item stop ∷ [])
coarse_rise_by start z last after [] stop low sound rises = last_rises z stop
coarse_rise_by start z last after (row ∷ all) stop low sound rises =
    let up : after ≤ row.0 = rises.0 in
    (row_fits start z last row sound.0 (omega (arith, ints, low, up)), coarse_rise_by start (pos row.0) last row.0 all stop (omega (arith, ints)) sound.1 rises.1)

first_rises : (start : ℤ) (last after : ℕ) (all : List (ℕ × CoarseRow)) (stop : Option Bad) → Each (IsSoundRow start last) all → RowsRise after all
    → ItemsRise start (map coarse_item all ++ last_item stop ∷ [])
first_rises start last after [] stop sound rises = last_rises start stop
first_rises start last after (row ∷ all) stop sound rises =
    let above = sound.0.after in
    (row_fits start start last row sound.0 (omega (arith, ints, above)), coarse_rise_by start (pos row.0) last row.0 all stop (omega (arith, ints)) sound.1 rises.1)

coarse_within : (start : ℤ) (last : ℕ) (all : List (ℕ × CoarseRow)) (stop : Option Bad) → Each (IsSoundRow start last) all
    → All (EndsWithin start (pos last)) (map coarse_item all ++ last_item stop ∷ [])
coarse_within start last [] stop sound = alone_within start (pos last) stop
coarse_within start last (row ∷ all) stop sound =
    let low = sound.0.until in
    All-cons (EndsWithin start (pos last)) (coarse_item row) _ (sound.0.after, omega (arith, ints, low)) (coarse_within start last all stop sound.1)

mapped_whole : {X : Type 0} (h : X → Item) → ((x : X) → IsRow (h x)) → (xs : List X) (stop : Option Bad) → IsWhole (map h xs ++ last_item stop ∷ [])
mapped_whole h are xs stop = record { rows = map h xs; stop = stop; is = refl; are_rows = each xs }
  where
    each : (ys : List _) → All IsRow (map h ys)
    each [] = All-nil IsRow
    each (y ∷ ys) = All-cons IsRow (h y) (map h ys) (are y) (each ys)

mapped_length : {X : Type 0} (h : X → Item) (xs : List X) (item : Item) → length (map h xs ++ item ∷ []) ≡ length xs + 1
mapped_length h [] item = refl
mapped_length h (x ∷ xs) item = let rest = mapped_length h xs item in omega (arith, rest)

coarse_short : (files : Files) (hours : Entries) (window : Window) (key : FeedKey) → IsWindow window → key.kind ≡ Coarse
    → length (coarse_of files hours window key).rows ≤ 84_005 * 20_000
unfolding coarse_of
coarse_short files hours window key is_window is =
    let kind : numbers key window hours ≡ files_of Coarse key.start.0 window hours = ap (λ k. files_of k key.start.0 window hours) is in
    let raw = coarse_raw files (files_of Coarse key.start.0 window hours) in
    let kept = mapped_short (kept_coarse_row key.start.0) (cut (last_moment window) raw).rows in
    let read = cut_short (last_moment window) raw in
    let count = raw_count files hours key.start.0 window is_window in
    subst (λ ns. length (kept_coarse key.start.0 (last_moment window) (coarse_raw files ns)).rows ≤ 84_005 * 20_000) (sym kind) (omega (arith, kept, read, count))

-- ---- the lists of all keys

module _ (files : Files) (hours : Entries) (window : Window) (key : FeedKey) (every : LieInDays hours) (is_window : IsWindow window) where
  feed_rises_of : (kind : FeedKind) → key.kind ≡ kind → ItemsRise key.start.0 (feed_of files hours window key kind)
  feed_rises_of Coarse is =
      let kept = coarse_are files hours window key is_window is in
      first_rises key.start.0 (last_moment window) 0 (coarse_of files hours window key).rows (coarse_of files hours window key).stop kept.0 kept.1
  feed_rises_of (Equity symbol resolution) is =
      items_rise key.start.0 (filling_of hours window key resolution) (bars_of files hours window key symbol resolution) 0 (last_small window is_window)
      (kept_are files hours window key symbol resolution every is_window is).0

  pub feed_rises : ItemsRise key.start.0 (feed files hours window key)
  feed_rises = feed_rises_of key.kind refl

  rows_rise_of : (kind : FeedKind) → key.kind ≡ kind → ItemsRise key.start.0 (rows_of files hours window key kind)
  rows_rise_of Coarse is = feed_rises_of Coarse is
  rows_rise_of (Equity symbol resolution) is =
      let kept = kept_are files hours window key symbol resolution every is_window is in
      rows_rise key.start.0 (last_moment window) (from_1970 key.start.0) (bars_of files hours window key symbol resolution) kept.0 kept.1

  pub key_rows_rise : ItemsRise key.start.0 (rows files hours window key)
  key_rows_rise = rows_rise_of key.kind refl

  feed_within_of : (kind : FeedKind) → key.kind ≡ kind → All (EndsWithin key.start.0 (pos (last_moment window))) (feed_of files hours window key kind)
  feed_within_of Coarse is =
      coarse_within key.start.0 (last_moment window) (coarse_of files hours window key).rows (coarse_of files hours window key).stop (coarse_are files hours window key is_window is).0
  feed_within_of (Equity symbol resolution) is =
      items_within key.start.0 (filling_of hours window key resolution) (bars_of files hours window key symbol resolution) 0 (last_small window is_window)
      (kept_are files hours window key symbol resolution every is_window is).0

  pub feed_within : All (EndsWithin key.start.0 (pos (last_moment window))) (feed files hours window key)
  feed_within = feed_within_of key.kind refl

  rows_within_of : (kind : FeedKind) → key.kind ≡ kind → All (EndsWithin key.start.0 (pos (last_moment window))) (rows_of files hours window key kind)
  rows_within_of Coarse is = feed_within_of Coarse is
  rows_within_of (Equity symbol resolution) is =
      rows_within key.start.0 (last_moment window) (bars_of files hours window key symbol resolution) (kept_are files hours window key symbol resolution every is_window is).0

  pub key_rows_within : All (EndsWithin key.start.0 (pos (last_moment window))) (rows files hours window key)
  key_rows_within = rows_within_of key.kind refl

  feed_short_of : (kind : FeedKind) → key.kind ≡ kind → length (feed_of files hours window key kind) < 2 ^ 40
  feed_short_of Coarse is =
      let few = coarse_short files hours window key is_window is in
      let long = mapped_length coarse_item (coarse_of files hours window key).rows (last_item (coarse_of files hours window key).stop) in
      omega (arith, few, long)
  feed_short_of (Equity symbol resolution) is =
      let long = items_length (filling_of hours window key resolution) (bars_of files hours window key symbol resolution) 0 in
      let small = last_small window is_window in
      omega (arith, long, small)

  pub feed_short : length (feed files hours window key) < 2 ^ 40
  feed_short = feed_short_of key.kind refl

  rows_short_of : (kind : FeedKind) → key.kind ≡ kind → length (rows_of files hours window key kind) < 2 ^ 40
  rows_short_of Coarse is = feed_short_of Coarse is
  rows_short_of (Equity symbol resolution) is =
      let kept = kept_are files hours window key symbol resolution every is_window is in
      let all = bars_of files hours window key symbol resolution in
      let few = rows_short (from_1970 key.start.0) (last_moment window) all.rows kept.1 (sound_end key.start.0 (last_moment window) all.rows kept.0) in
      let long = mapped_length BarItem all.rows (last_item all.stop) in
      let small = last_small window is_window in
      omega (arith, few, long, small)

  pub key_rows_short : length (rows files hours window key) < 2 ^ 40
  key_rows_short = rows_short_of key.kind refl

-- each list is rows and one last item
pub feed_whole : (files : Files) (hours : Entries) (window : Window) (key : FeedKey) → IsWhole (feed files hours window key)
feed_whole files hours window key = by key.kind
  where
    by : (kind : FeedKind) → IsWhole (feed_of files hours window key kind)
    by Coarse = mapped_whole coarse_item (λ row. refl) (coarse_of files hours window key).rows (coarse_of files hours window key).stop
    by (Equity symbol resolution) = items_whole (filling_of hours window key resolution) (bars_of files hours window key symbol resolution) 0

pub key_rows_whole : (files : Files) (hours : Entries) (window : Window) (key : FeedKey) → IsWhole (rows files hours window key)
key_rows_whole files hours window key = by key.kind
  where
    by : (kind : FeedKind) → IsWhole (rows_of files hours window key kind)
    by Coarse = mapped_whole coarse_item (λ row. refl) (coarse_of files hours window key).rows (coarse_of files hours window key).stop
    by (Equity symbol resolution) = mapped_whole BarItem (λ bar. refl) (bars_of files hours window key symbol resolution).rows (bars_of files hours window key symbol resolution).stop

rises_lower : (a b : ℕ) (all : List Bar) → a ≤ b → Rises b all → Rises a all
rises_lower a b [] low rises = tt
rises_lower a b (row ∷ all) low rises = let up : b < end_of row = rises.0 in (omega (arith, low, up), rises.1)

-- the list of a feed that does not fill is its rows
pub feed_plain : (files : Files) (hours : Entries) (window : Window) (key : FeedKey) → LieInDays hours → IsWindow window → key.fill ≡ false
    → feed files hours window key ≡ rows files hours window key
feed_plain files hours window key every is_window plain = by key.kind refl
  where
    by : (kind : FeedKind) → key.kind ≡ kind → feed_of files hours window key kind ≡ rows_of files hours window key kind
    by Coarse is = refl
    by (Equity symbol resolution) is =
        let kept = kept_are files hours window key symbol resolution every is_window is in
        let all = bars_of files hours window key symbol resolution in
        plain_items (filling_of hours window key resolution) all plain (rises_lower 0 (from_1970 key.start.0) all.rows (omega arith) kept.1)
        (sound_end key.start.0 (last_moment window) all.rows kept.0)

-- ---- coarse rows of a moment

no_last_row : (t : ℕ) (stop : Option Bad) → rows_ending t (last_item stop ∷ []) ≡ []
no_last_row t None = refl
no_last_row t (Some bad) = refl

row_ended : (t : ℕ) (row : ℕ × CoarseRow) (more : List CoarseRow) (kept : List (ℕ × CoarseRow)) (b : Bool) → more ≡ map (λ r. r.1) kept
    → cons_option (if b then Some row.1 else None) more ≡ map (λ r. r.1) (cond b (row ∷ kept) kept)
row_ended t row more kept true is = ap (λ xs. row.1 ∷ xs) is
row_ended t row more kept false is = is

pub coarse_told : (t : ℕ) (kept : Kept (ℕ × CoarseRow)) → coarse_at kept t ≡ rows_ending t (coarse_items kept)
coarse_told t kept = sym (by kept.rows)
  where
    by : (all : List (ℕ × CoarseRow)) → rows_ending t (map coarse_item all ++ last_item kept.stop ∷ []) ≡ map (λ r. r.1) (filter (λ r. r.0 == t) all)
    by [] = no_last_row t kept.stop
    by (row ∷ all) = row_ended t row (rows_ending t (map coarse_item all ++ last_item kept.stop ∷ [])) (filter (λ r. r.0 == t) all) (row.0 == t) (by all)
