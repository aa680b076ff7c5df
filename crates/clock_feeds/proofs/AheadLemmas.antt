-- No look-ahead: what is known of a feed by a moment comes of the rows that end by then.
use Rattle.std.proofs.Common.{◌≡◌, ℕ, ◌+◌, ◌<◌, ◌≤◌, ℤ, pos, int_lt, List, [], ◌∷◌, ◌++◌, filter, map, Bool, true, false, refl, sym, ap, ap₂, ◌∙◌, subst, arith, inl, inr, true≢false}
use Rattle.std.specs.Prelude.{Option, Some, None, Result, Ok, Err, ◌==◌, ◌&&◌, nat_le, cond, find, if◌then◌else◌, filter_map, flat_map, option_map, option_to_list}
use Rattle.std.specs.List.{cons_option, last_or, list_all}
use Rattle.std.specs.Option.{option_or}
use Rattle.std.proofs.lemmas.Bool.{cases_lt}
use Rattle.std.proofs.lemmas.Bool.Decides.{nat_tests}
use Rattle.std.proofs.lemmas.List.Elements.{filter-append, filter_map-append}
use Rattle.lean_fixed.specs.Moments.{midnight, last_moment}
use Rattle.lean_fixed.specs.Ranges.{IsWindow}
use Rattle.lean_fixed.specs.declared.resolution.Resolution.{Resolution}
use Rattle.lean_fixed.specs.declared.time.Window.{Window}
use Rattle.lean_io.specs.Told.{Files}
use Rattle.lean_items.specs.declared.bad.Bad.{Bad}
use Rattle.lean_items.specs.declared.bar.Bar.{Bar}
use Rattle.lean_items.specs.declared.coarse_row.CoarseRow.{CoarseRow}
use Rattle.lean_items.specs.declared.feed_key.FeedKey.{FeedKey}
use Rattle.lean_items.specs.declared.feed_key.FeedKind.{FeedKind}
use Rattle.lean_items.specs.declared.feed_key.FeedKind.TheVariants.{Coarse, Equity}
use Rattle.lean_items.specs.declared.reason.Reason.{Reason}
use Rattle.lean_items.specs.Coarse.{IsCoarse}
use Rattle.equity_csv.specs.declared.row.Row.{Row}
use Rattle.equity_csv.specs.Written.{IsRow}
use Rattle.exchange_hours.specs.Entries.{Entries}
use Rattle.exchange_hours.specs.Sessions.{LieInDays}
use Rattle.exchange_hours.specs.Grid.{in_session, is_grid_end}
use Rattle.feed_paths.specs.Files.{files_of, files as numbers}
use Rattle.feed_paths.specs.Paths.{path_of}
use Rattle.clock_steps.proofs.WalkLemmas.{walk-alike}
use Rattle.clock_feeds.specs.Entries.{Entry}
use Rattle.clock_feeds.specs.Raw.{Timed, Raw, timed_says, raw_of, file_entries, coarse_entries, coarse_end, equity_raw, coarse_raw, start_of}
use Rattle.clock_feeds.specs.Kept.{Kept, is_past, cut_at, cut, bar_of, kept_bar_at, kept_bar, kept_bars, kept_coarse_at, kept_coarse_row, kept_coarse}
use Rattle.clock_feeds.specs.Bars.{Filling, end_of, ends_at, ends_before, ends_by, latest, filled, bar_at}
use Rattle.clock_feeds.specs.Feeds.{bars_of, coarse_of, filling_of}
use Rattle.clock_feeds.specs.Slices.{source, coarse_at}
use Rattle.clock_feeds.specs.Known.{bars_by, feed_bars_of, feed_blocked_of}
use Rattle.clock_feeds.specs.Ahead.{equity_lines, coarse_lines, is_end_by, HasRow, AreGood, row_said, rows_said, rows_by, AreWellFormed, AgreeUntil}
use Rattle.clock_feeds.proofs.SearchLemmas.{Each, each_both, none_some, same_some}
use Rattle.clock_feeds.proofs.CutLemmas.{OnEnd, OnSays, Climbs, Rising, Standing}
use Rattle.clock_feeds.proofs.FileRowLemmas.{raw_climbs}
use Rattle.clock_feeds.proofs.CoarseLemmas.{raw_climbs as coarse_climbs}

-- ---- what passes one test among what passes another

module _ {X : Type 0} (p q : X → Bool) where
  abbrev Implies : Type 0
  Implies = (x : X) → p x ≡ true → q x ≡ true

  filter_kept : (x : X) (xs : List X) → p x ≡ true → filter p (x ∷ xs) ≡ x ∷ filter p xs
  filter_kept x xs is = rw is refl

  filter_left : (x : X) (xs : List X) → p x ≡ false → filter p (x ∷ xs) ≡ filter p xs
  filter_left x xs is = rw is refl

  filter_step : (x : X) (xs : List X) (a b : Bool) → p x ≡ a → (a ≡ true → b ≡ true) → filter p xs ≡ filter p (filter q xs)
      → cond a (x ∷ filter p xs) (filter p xs) ≡ filter p (cond b (x ∷ filter q xs) (filter q xs))
  filter_step x xs true true is i same = ap (λ ys. x ∷ ys) same ∙ sym (filter_kept x (filter q xs) is)
  filter_step x xs true false is i same = absurd (true≢false (sym (i refl)))
  filter_step x xs false true is i same = same ∙ sym (filter_left x (filter q xs) is)
  filter_step x xs false false is i same = same

  filter_within : Implies → (xs : List X) → filter p xs ≡ filter p (filter q xs)
  filter_within i [] = refl
  filter_within i (x ∷ xs) = filter_step x xs (p x) (q x) refl (i x) (filter_within i xs)

  find_kept : (x : X) (xs : List X) → p x ≡ true → find p (x ∷ xs) ≡ Some x
  find_kept x xs is = rw is refl

  find_left : (x : X) (xs : List X) → p x ≡ false → find p (x ∷ xs) ≡ find p xs
  find_left x xs is = rw is refl

  find_step : (x : X) (xs : List X) (a b : Bool) → p x ≡ a → (a ≡ true → b ≡ true) → find p xs ≡ find p (filter q xs)
      → cond a (Some x) (find p xs) ≡ find p (cond b (x ∷ filter q xs) (filter q xs))
  find_step x xs true true is i same = sym (find_kept x (filter q xs) is)
  find_step x xs true false is i same = absurd (true≢false (sym (i refl)))
  find_step x xs false true is i same = same ∙ sym (find_left x (filter q xs) is)
  find_step x xs false false is i same = same

  find_within : Implies → (xs : List X) → find p xs ≡ find p (filter q xs)
  find_within i [] = refl
  find_within i (x ∷ xs) = find_step x xs (p x) (q x) refl (i x) (find_within i xs)

-- what is kept of some values, where a test of what is kept is one of the value
module _ {X Y : Type 0} (p : Y → Bool) (q : X → Bool) (keep : X → Option Y) (tested : (x : X) (y : Y) → keep x ≡ Some y → p y ≡ q x) where
  keep_step : (x : X) (rest : List Y) (passing : List X) (o : Option Y) (b : Bool) → keep x ≡ o → q x ≡ b → filter p rest ≡ filter_map keep passing
      → filter p (cons_option o rest) ≡ filter_map keep (cond b (x ∷ passing) passing)
  keep_step x rest passing None true is passes same = same ∙ sym (ap (λ o. cons_option o (filter_map keep passing)) is)
  keep_step x rest passing None false is passes same = same
  keep_step x rest passing (Some y) true is passes same =
      let here : p y ≡ true = tested x y is ∙ passes in
      rw here (ap (λ ys. y ∷ ys) same ∙ sym (ap (λ o. cons_option o (filter_map keep passing)) is))
  keep_step x rest passing (Some y) false is passes same =
      let here : p y ≡ false = tested x y is ∙ passes in
      rw here same

  keep_by : (xs : List X) → filter p (filter_map keep xs) ≡ filter_map keep (filter q xs)
  keep_by [] = refl
  keep_by (x ∷ xs) = keep_step x (filter_map keep xs) (filter q xs) (keep x) (q x) refl refl (keep_by xs)

-- ---- the rows of files that end by a moment

end_earlier : (u t : ℕ) → u ≤ t → (o : Option ℕ) → is_end_by u o ≡ true → is_end_by t o ≡ true
end_earlier u t low None is = is
end_earlier u t low (Some end) is = let h : nat_le end u ≡ true = is in grind (arith, nat_tests)

module _ {X : Type 0} where
  abbrev ends : ℕ → Timed X → Bool
  ends t timed = is_end_by t timed.end

  by_earlier : (u t : ℕ) → u ≤ t → (xs ys : List (Raw X)) → rows_by t xs ≡ rows_by t ys → rows_by u xs ≡ rows_by u ys
  by_earlier u t low xs ys same =
      filter_within (ends u) (ends t) (λ timed. end_earlier u t low timed.end) (rows_said xs)
      ∙ ap (filter (ends u)) same
      ∙ sym (filter_within (ends u) (ends t) (λ timed. end_earlier u t low timed.end) (rows_said ys))

  by_both : (t : ℕ) (xs ys : List (Raw X)) → rows_by t (xs ++ ys) ≡ rows_by t xs ++ rows_by t ys
  by_both t xs ys =
      ap (filter (ends t)) (filter_map-append (λ entry. row_said entry.says) xs ys) ∙ filter-append (ends t) (rows_said xs) (rows_said ys)

  by_files : (t : ℕ) (gives other : ℕ → List (Raw X)) (files : List ℕ) → Each (λ file. rows_by t (gives file) ≡ rows_by t (other file)) files
      → rows_by t (flat_map gives files) ≡ rows_by t (flat_map other files)
  by_files t gives other [] each = refl
  by_files t gives other (file ∷ files) each =
      by_both t (gives file) (flat_map gives files) ∙ ap₂ (λ xs ys. xs ++ ys) each.0 (by_files t gives other files each.1)
      ∙ sym (by_both t (other file) (flat_map other files))

  good_files : (gives : ℕ → List (Raw X)) (files : List ℕ) → Each (λ file. AreGood (gives file)) files → AreGood (flat_map gives files)
  good_files gives [] each = tt
  good_files gives (file ∷ files) each = each_both (λ entry. HasRow entry.says) (gives file) (flat_map gives files) each.0 (good_files gives files each.1)

  -- without a malformed line a feed ends at none
  good_stop : (last : ℕ) (raw : List (Raw X)) → AreGood raw → (cut last raw).stop ≡ None
  good_stop last [] good = refl
  good_stop last (entry ∷ more) good = by entry.says good.0 (good_stop last more good.1)
    where
      by : (says : Result (Timed X) Reason) → HasRow says → (cut last more).stop ≡ None → (cut_at last entry.file entry.line says (cut last more)).stop ≡ None
      by (Err reason) h later = absurd h
      by (Ok timed) h later = with_row (is_past last timed.end)
        where
          with_row : (b : Bool)
              → (let k : Kept (Timed X) = if b then record { rows = []; stop = None } else record { rows = timed ∷ (cut last more).rows; stop = (cut last more).stop } in k).stop ≡ None
          with_row true = refl
          with_row false = later

  module _ (Behind : ℕ → ℕ → Type 0) (Good : X → Type 0) (upward : (a e : ℕ) → Behind a e → a ≤ e) where
    -- no row that climbs past a moment ends by it
    none_by : (t after until : ℕ) (raw : List (Raw X)) → t < after → Climbs Behind Good after until raw → AreGood raw → rows_by t raw ≡ []
    none_by t after until [] past climbs good = refl
    none_by t after until (entry ∷ more) past climbs good = by entry.says climbs good.0 (λ at p c. none_by t at until more p c good.1)
      where
        by : (says : Result (Timed X) Reason) → OnSays Behind Good (λ at. Climbs Behind Good at until more) after until says → HasRow says
            → ((at : ℕ) → t < at → Climbs Behind Good at until more → rows_by t more ≡ []) → filter (ends t) (cons_option (row_said says) (rows_said more)) ≡ []
        by (Err reason) c h later = absurd h
        by (Ok timed) c h later = ended timed.end c
          where
            ended : (o : Option ℕ) → OnEnd Behind Good (λ at. Climbs Behind Good at until more) after until timed.row o
                → cond (is_end_by t o) (timed ∷ filter (ends t) (rows_said more)) (filter (ends t) (rows_said more)) ≡ []
            ended None k = later after past k
            ended (Some end) k =
                let up = upward after end k.0 in
                let over : nat_le end t ≡ false = (let beyond : t < end = omega (arith, past, up) in grind (arith, nat_tests)) in
                rw over (later end (omega (arith, past, up)) k.3)

    -- the cut throws away only what ends past the window
    cut_by : (t last after until : ℕ) (raw : List (Raw X)) → t ≤ last → Climbs Behind Good after until raw → AreGood raw → filter (ends t) (cut last raw).rows ≡ rows_by t raw
    cut_by t last after until [] low climbs good = refl
    cut_by t last after until (entry ∷ more) low climbs good =
        by entry.says climbs good.0 (λ at c. cut_by t last at until more low c good.1) (λ at p c. none_by t at until more p c good.1)
      where
        by : (says : Result (Timed X) Reason) → OnSays Behind Good (λ at. Climbs Behind Good at until more) after until says → HasRow says
            → ((at : ℕ) → Climbs Behind Good at until more → filter (ends t) (cut last more).rows ≡ rows_by t more)
            → ((at : ℕ) → t < at → Climbs Behind Good at until more → rows_by t more ≡ [])
            → filter (ends t) (cut_at last entry.file entry.line says (cut last more)).rows ≡ filter (ends t) (cons_option (row_said says) (rows_said more))
        by (Err reason) c h later none = absurd h
        by (Ok timed) c h later none = with_row (is_past last timed.end) refl
          where
            rest : (o : Option ℕ) → OnEnd Behind Good (λ at. Climbs Behind Good at until more) after until timed.row o → filter (ends t) (cut last more).rows ≡ rows_by t more
            rest None k = later after k
            rest (Some end) k = later end k.3

            past : (o : Option ℕ) → is_past last o ≡ true → OnEnd Behind Good (λ at. Climbs Behind Good at until more) after until timed.row o
                → cond (is_end_by t o) (timed ∷ rows_by t more) (rows_by t more) ≡ []
            past None is k = absurd (true≢false (sym is))
            past (Some end) is k =
                let beyond : t < end = grind (arith, nat_tests) in
                let over : nat_le end t ≡ false = grind (arith, nat_tests) in
                rw over (none end beyond k.3)

            with_row : (b : Bool) → is_past last timed.end ≡ b
                → filter (ends t) (let k : Kept (Timed X) = if b then record { rows = []; stop = None } else record { rows = timed ∷ (cut last more).rows; stop = (cut last more).stop } in k).rows
                ≡ cond (is_end_by t timed.end) (timed ∷ rows_by t more) (rows_by t more)
            with_row true is = sym (past timed.end is c)
            with_row false is = ap (λ ys. cond (is_end_by t timed.end) (timed ∷ ys) ys) (rest timed.end c)

-- ---- what is kept of them

kept_end : (hours : Entries) (start : ℤ) (t : ℕ) (row : Row) (o : Option ℕ) (bar : Bar) → kept_bar_at hours start row o ≡ Some bar → ends_by t bar ≡ is_end_by t o
kept_end hours start t row None bar is = absurd (none_some is)
kept_end hours start t row (Some end) bar is = by (int_lt start (pos end) && in_session hours (start_of row) end) is
  where
    by : (b : Bool) → (if b then Some (bar_of row end) else None) ≡ Some bar → nat_le (end_of bar) t ≡ nat_le end t
    by true e = ap (λ k. nat_le (end_of k) t) (sym (same_some e))
    by false e = absurd (none_some e)

row_end : (start : ℤ) (t : ℕ) (row : CoarseRow) (o : Option ℕ) (kept : ℕ × CoarseRow) → kept_coarse_at start row o ≡ Some kept → nat_le kept.0 t ≡ is_end_by t o
row_end start t row None kept is = absurd (none_some is)
row_end start t row (Some end) kept is = by (int_lt start (pos end)) is
  where
    by : (b : Bool) → (let o : Option (ℕ × CoarseRow) = if b then Some (end, row) else None in o) ≡ Some kept → nat_le kept.0 t ≡ nat_le end t
    by true e = ap (λ k. nat_le k.0 t) (sym (same_some e))
    by false e = absurd (none_some e)

bars_kept : (hours : Entries) (start : ℤ) (t last : ℕ) (raw : List (Raw Row)) → t ≤ last → Climbs Rising IsRow 0 121000000 raw → AreGood raw
    → filter (ends_by t) (kept_bars hours start last raw).rows ≡ filter_map (kept_bar hours start) (rows_by t raw)
bars_kept hours start t last raw low climbs good =
    keep_by (ends_by t) (λ timed. is_end_by t timed.end) (kept_bar hours start) (λ timed bar. kept_end hours start t timed.row timed.end bar) (cut last raw).rows
    ∙ ap (filter_map (kept_bar hours start)) (cut_by Rising IsRow (λ a e up. omega (arith, up)) t last 0 121000000 raw low climbs good)

abbrev row_by : ℕ → ℕ × CoarseRow → Bool
row_by t row = nat_le row.0 t

rows_kept : (start : ℤ) (t last : ℕ) (raw : List (Raw CoarseRow)) → t ≤ last → Climbs Standing IsCoarse 0 121000000 raw → AreGood raw
    → filter (row_by t) (kept_coarse start last raw).rows ≡ filter_map (kept_coarse_row start) (rows_by t raw)
rows_kept start t last raw low climbs good =
    keep_by (row_by t) (λ timed. is_end_by t timed.end) (kept_coarse_row start) (λ timed kept. row_end start t timed.row timed.end kept) (cut last raw).rows
    ∙ ap (filter_map (kept_coarse_row start)) (cut_by Standing IsCoarse (λ a e up. up) t last 0 121000000 raw low climbs good)

-- ---- bars without a malformed line behind them

abbrev made : Filling → ℕ → Option Bar → Option Bar → Option Bar
made f t row last = option_or row (if f.fills && (nat_le t f.last && (is_grid_end f.hours f.resolution t && true)) then option_map (filled f t) last else None)

bar_made : (f : Filling) (kept : Kept Bar) (t : ℕ) → kept.stop ≡ None → bar_at f kept t ≡ made f t (find (ends_at t) kept.rows) (latest kept t)
unfolding bar_at
bar_made f kept t none = rw none refl

at_by : (t : ℕ) (bar : Bar) → ends_at t bar ≡ true → ends_by t bar ≡ true
at_by t bar is = grind (arith, nat_tests)

before_by : (t : ℕ) (bar : Bar) → ends_before t bar ≡ true → ends_by t bar ≡ true
before_by t bar is = grind (arith, nat_tests)

bar_same : (f : Filling) (kept other : Kept Bar) (t : ℕ) → kept.stop ≡ None → other.stop ≡ None → filter (ends_by t) kept.rows ≡ filter (ends_by t) other.rows → bar_at f kept t ≡ bar_at f other t
bar_same f kept other t none nothing same =
    let row : find (ends_at t) kept.rows ≡ find (ends_at t) other.rows
    = find_within (ends_at t) (ends_by t) (at_by t) kept.rows ∙ ap (find (ends_at t)) same ∙ sym (find_within (ends_at t) (ends_by t) (at_by t) other.rows) in
    let before : filter (ends_before t) kept.rows ≡ filter (ends_before t) other.rows
    = filter_within (ends_before t) (ends_by t) (before_by t) kept.rows ∙ ap (filter (ends_before t)) same ∙ sym (filter_within (ends_before t) (ends_by t) (before_by t) other.rows) in
    bar_made f kept t none ∙ ap₂ (made f t) row (ap (last_or None) before) ∙ sym (bar_made f other t nothing)

-- ---- coarse files

late_rows : (t file : ℕ) (es : List (Entry CoarseRow)) → t < midnight (file + 1) → rows_by t (map (raw_of file (coarse_end file)) es) ≡ []
late_rows t file [] late = refl
late_rows t file (entry ∷ es) late = by entry.says (late_rows t file es late)
  where
    by : (says : Result CoarseRow Reason) → rows_by t (map (raw_of file (coarse_end file)) es) ≡ []
        → filter (λ timed. is_end_by t timed.end) (cons_option (row_said (timed_says (coarse_end file) says)) (rows_said (map (raw_of file (coarse_end file)) es))) ≡ []
    by (Err reason) later = later
    by (Ok row) later = let over : nat_le (midnight (file + 1)) t ≡ false = grind (arith, nat_tests) in rw over later

module _ (files other : Files) (t u : ℕ) (low : u ≤ t) where
  coarse_file : (file : ℕ) → (midnight (file + 1) ≤ t → rows_said (coarse_lines files file) ≡ rows_said (coarse_lines other file)) → rows_by u (coarse_lines files file) ≡ rows_by u (coarse_lines other file)
  coarse_file file same =
      elim (cases_lt u (midnight (file + 1))) [
        | inl late ↦ late_rows u file (file_entries coarse_entries (files (path_of Coarse file))) late ∙ sym (late_rows u file (file_entries coarse_entries (other (path_of Coarse file))) late)
        | inr over ↦ ap (filter (λ timed. is_end_by u timed.end)) (same (omega (arith, over, low)))
      ]

  coarse_files : (ns : List ℕ) → Each (λ file. midnight (file + 1) ≤ t → rows_said (coarse_lines files file) ≡ rows_said (coarse_lines other file)) ns
      → Each (λ file. rows_by u (coarse_lines files file) ≡ rows_by u (coarse_lines other file)) ns
  coarse_files [] each = tt
  coarse_files (file ∷ ns) each = (coarse_file file each.0, coarse_files ns each.1)

  equity_files : (hours : Entries) (symbol : List ℕ) (resolution : Resolution) (ns : List ℕ)
      → Each (λ file. rows_by t (equity_lines files hours symbol resolution file) ≡ rows_by t (equity_lines other hours symbol resolution file)) ns
      → Each (λ file. rows_by u (equity_lines files hours symbol resolution file) ≡ rows_by u (equity_lines other hours symbol resolution file)) ns
  equity_files hours symbol resolution [] each = tt
  equity_files hours symbol resolution (file ∷ ns) each = (
    by_earlier u t low (equity_lines files hours symbol resolution file) (equity_lines other hours symbol resolution file) each.0,
    equity_files hours symbol resolution ns each.1,
  )

-- ---- feeds

numbers_of : (key : FeedKey) (window : Window) (hours : Entries) (kind : FeedKind) → key.kind ≡ kind → numbers key window hours ≡ files_of kind key.start.0 window hours
numbers_of key window hours kind is = ap (λ k. files_of k key.start.0 window hours) is

bars_stop : (files : Files) (hours : Entries) (window : Window) (key : FeedKey) (symbol : List ℕ) (resolution : Resolution) → AreWellFormed files hours window → key.kind ≡ Equity symbol resolution
    → (bars_of files hours window key symbol resolution).stop ≡ None
unfolding bars_of equity_raw
bars_stop files hours window key symbol resolution good is =
    subst (λ ns. (kept_bars hours key.start.0 (last_moment window) (flat_map (equity_lines files hours symbol resolution) ns)).stop ≡ None)
    (sym (numbers_of key window hours (Equity symbol resolution) is))
    (good_stop (last_moment window) (flat_map (equity_lines files hours symbol resolution) (files_of (Equity symbol resolution) key.start.0 window hours))
    (good_files (equity_lines files hours symbol resolution) (files_of (Equity symbol resolution) key.start.0 window hours) (good.bars symbol resolution key.start.0)))

rows_stop : (files : Files) (hours : Entries) (window : Window) (key : FeedKey) → AreWellFormed files hours window → key.kind ≡ Coarse → (coarse_of files hours window key).stop ≡ None
unfolding coarse_of coarse_raw
rows_stop files hours window key good is =
    subst (λ ns. (kept_coarse key.start.0 (last_moment window) (flat_map (coarse_lines files) ns)).stop ≡ None)
    (sym (numbers_of key window hours Coarse is))
    (good_stop (last_moment window) (flat_map (coarse_lines files) (files_of Coarse key.start.0 window hours))
    (good_files (coarse_lines files) (files_of Coarse key.start.0 window hours) (good.rows key.start.0)))

no_stop : (b : Bool) (stop : Option Bad) → stop ≡ None → (if b then stop else None) ≡ None
no_stop true stop none = none
no_stop false stop none = refl

pub not_blocked : (files : Files) (hours : Entries) (window : Window) (key : FeedKey) → AreWellFormed files hours window → (kind : FeedKind) → key.kind ≡ kind → (t : ℕ)
    → feed_blocked_of files hours window key kind t ≡ None
not_blocked files hours window key good Coarse is t =
    no_stop (list_all (λ row. nat_le row.0 t) (coarse_of files hours window key).rows) (coarse_of files hours window key).stop (rows_stop files hours window key good is)
not_blocked files hours window key good (Equity symbol resolution) is t =
    no_stop (list_all (ends_by t) (bars_of files hours window key symbol resolution).rows) (bars_of files hours window key symbol resolution).stop
    (bars_stop files hours window key symbol resolution good is)

module _ (files other : Files) (hours : Entries) (window : Window) (t : ℕ) (every : LieInDays hours) (is_window : IsWindow window)
    (good : AreWellFormed files hours window) (fine : AreWellFormed other hours window) (agree : AgreeUntil t files other hours window) (key : FeedKey) where
  bars_of_same : (symbol : List ℕ) (resolution : Resolution) → key.kind ≡ Equity symbol resolution → (u : ℕ) → u ≤ t → u ≤ last_moment window
      → filter (ends_by u) (bars_of files hours window key symbol resolution).rows ≡ filter (ends_by u) (bars_of other hours window key symbol resolution).rows
  unfolding bars_of equity_raw
  bars_of_same symbol resolution is u low within =
      let ns = files_of (Equity symbol resolution) key.start.0 window hours in
      let last = last_moment window in
      let lines = equity_lines files hours symbol resolution in
      let texts = equity_lines other hours symbol resolution in
      subst (λ ms. filter (ends_by u) (kept_bars hours key.start.0 last (flat_map lines ms)).rows ≡ filter (ends_by u) (kept_bars hours key.start.0 last (flat_map texts ms)).rows)
      (sym (numbers_of key window hours (Equity symbol resolution) is))
      (bars_kept hours key.start.0 u last (flat_map lines ns) within (raw_climbs files hours symbol resolution key.start.0 window every is_window)
      (good_files lines ns (good.bars symbol resolution key.start.0))
      ∙ ap (filter_map (kept_bar hours key.start.0)) (by_files u lines texts ns (equity_files files other t u low hours symbol resolution ns (agree.bars symbol resolution key.start.0)))
      ∙ sym (bars_kept hours key.start.0 u last (flat_map texts ns) within (raw_climbs other hours symbol resolution key.start.0 window every is_window)
      (good_files texts ns (fine.bars symbol resolution key.start.0))))

  rows_of_same : key.kind ≡ Coarse → (u : ℕ) → u ≤ t → u ≤ last_moment window
      → filter (row_by u) (coarse_of files hours window key).rows ≡ filter (row_by u) (coarse_of other hours window key).rows
  unfolding coarse_of coarse_raw
  rows_of_same is u low within =
      let ns = files_of Coarse key.start.0 window hours in
      let last = last_moment window in
      subst (λ ms. filter (row_by u) (kept_coarse key.start.0 last (flat_map (coarse_lines files) ms)).rows ≡ filter (row_by u) (kept_coarse key.start.0 last (flat_map (coarse_lines other) ms)).rows)
      (sym (numbers_of key window hours Coarse is))
      (rows_kept key.start.0 u last (flat_map (coarse_lines files) ns) within (coarse_climbs files hours key.start.0 window is_window) (good_files (coarse_lines files) ns (good.rows key.start.0))
      ∙ ap (filter_map (kept_coarse_row key.start.0)) (by_files u (coarse_lines files) (coarse_lines other) ns (coarse_files files other t u low ns (agree.rows key.start.0)))
      ∙ sym (rows_kept key.start.0 u last (flat_map (coarse_lines other) ns) within (coarse_climbs other hours key.start.0 window is_window) (good_files (coarse_lines other) ns (fine.rows key.start.0))))

  pub bars_agree : (kind : FeedKind) → key.kind ≡ kind → (u : ℕ) → u ≤ t → u ≤ last_moment window → feed_bars_of files hours window key kind u ≡ feed_bars_of other hours window key kind u
  unfolding bars_by
  bars_agree Coarse is u low within = refl
  bars_agree (Equity symbol resolution) is u low within =
      let s = source files hours window key symbol resolution in
      let o = source other hours window key symbol resolution in
      walk-alike (λ v. option_to_list (bar_at s.filling s.kept v)) (λ v. option_to_list (bar_at o.filling o.kept v)) 0 u
      (λ v from until.
      ap option_to_list
      (bar_same (filling_of hours window key resolution) s.kept o.kept v (bars_stop files hours window key symbol resolution good is) (bars_stop other hours window key symbol resolution fine is)
      (bars_of_same symbol resolution is v (omega (arith, until, low)) (omega (arith, until, within)))))

  pub rows_agree : key.kind ≡ Coarse → (u : ℕ) → u ≤ t → u ≤ last_moment window → coarse_at (coarse_of files hours window key) u ≡ coarse_at (coarse_of other hours window key) u
  rows_agree is u low within =
      let now : (ℕ × CoarseRow) → Bool = λ row. row.0 == u in
      let implies : (row : ℕ × CoarseRow) → now row ≡ true → row_by u row ≡ true = λ row h. grind (arith, nat_tests) in
      ap (map (λ row. row.1))
      (filter_within now (row_by u) implies (coarse_of files hours window key).rows
      ∙ ap (filter now) (rows_of_same is u low within)
      ∙ sym (filter_within now (row_by u) implies (coarse_of other hours window key).rows))
