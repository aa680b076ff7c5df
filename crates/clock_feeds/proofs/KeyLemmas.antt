-- What is known of the feed of any key by a moment, and what its list tells of it.
use Rattle.std.proofs.Common.{◌≡◌, ℕ, zero, suc, ◌+◌, ◌-◌, ◌<◌, ◌≤◌, ℤ, pos, negsuc, ◌≤ℤ◌, List, [], ◌∷◌, ◌++◌, refl, sym, ap, ap₂, ◌∙◌, subst, arith, inl, inr, map}
use Rattle.std.specs.Prelude.{Option, Some, None, ◌&&◌, nat_le, find, if◌then◌else◌, option_to_list}
use Rattle.std.specs.List.{list_all}
use Rattle.std.proofs.lemmas.Bool.{cases_lt}
use Rattle.std.proofs.lemmas.Int.{ints}
use Rattle.lean_fixed.specs.Moments.{last_moment}
use Rattle.lean_fixed.specs.Ranges.{IsWindow}
use Rattle.lean_fixed.specs.declared.resolution.Resolution.{Resolution}
use Rattle.lean_fixed.specs.declared.time.Window.{Window}
use Rattle.lean_io.specs.Told.{Files}
use Rattle.lean_items.specs.declared.bad.Bad.{Bad}
use Rattle.lean_items.specs.declared.bar.Bar.{Bar}
use Rattle.lean_items.specs.declared.coarse_row.CoarseRow.{CoarseRow}
use Rattle.lean_items.specs.declared.feed_key.FeedKey.{FeedKey}
use Rattle.lean_items.specs.declared.feed_key.FeedKind.{FeedKind}
use Rattle.lean_items.specs.declared.feed_key.FeedKind.TheVariants.{Coarse, Equity}
use Rattle.lean_items.specs.declared.item.Item.{Item}
use Rattle.lean_items.specs.declared.item.Item.TheVariants.{Bar as BarItem}
use Rattle.exchange_hours.specs.Entries.{Entries}
use Rattle.exchange_hours.specs.Sessions.{LieInDays}
use Rattle.feed_paths.specs.Files.{from_1970}
use Rattle.clock_feeds.specs.Kept.{Kept}
use Rattle.clock_feeds.specs.Bars.{Filling, end_of, ends_at, bar_at}
use Rattle.clock_feeds.specs.Feeds.{last_item, items_from, coarse_item, coarse_items, bars_of, coarse_of, filling_of, feed_of}
use Rattle.clock_feeds.specs.Slices.{source}
use Rattle.clock_feeds.specs.Stands.{EndBy}
use Rattle.clock_feeds.specs.Known.{bars_by, coarse_blocked, feed_bars_of, feed_blocked_of}
use Rattle.clock_feeds.specs.Lists.{IsSound, StopsInFile, IsInFile, IsOfKind, bars_ending, is_by, stop_in, blocked_in}
use Rattle.clock_feeds.proofs.SearchLemmas.{Each, none_some}
use Rattle.clock_feeds.proofs.ListLemmas.{begins, items_past}
use Rattle.clock_feeds.proofs.SliceLemmas.{bars_told, bar_early, bar_late, none_listed, blocked_told}
use Rattle.clock_feeds.proofs.RiseLemmas.{bar_sound}
use Rattle.clock_feeds.proofs.CutLemmas.{sound_end}
use Rattle.clock_feeds.proofs.FeedLemmas.{last_small, kept_are}
use Rattle.clock_feeds.proofs.FileLemmas.{bars_stop, rows_stop}
use Rattle.clock_feeds.proofs.GrowLemmas as grown

-- ---- what holds of each bar and of the last item holds of each item

each_by : (P : Item → Type 0) (f : Filling) (kept : Kept Bar) (n from : ℕ) → f.last + 1 - from ≤ n → ((bar : Bar) → P (BarItem bar)) → P (last_item kept.stop) → Each P (items_from f kept from)
each_by P f kept zero from e bars last = subst (Each P) (sym (items_past f kept from (omega (arith, e)))) (last, tt)
each_by P f kept (suc n) from e bars last =
    elim (begins f kept from) [
      | inl next ↦ subst (Each P) (sym next.1.is) (bars next.0, each_by P f kept n (end_of next.0 + 1) (omega (arith, e, next.1.since, next.1.until)) bars last)
      | inr end ↦ subst (Each P) (sym end.is) (last, tt)
    ]

each_item : (P : Item → Type 0) (f : Filling) (kept : Kept Bar) (from : ℕ) → ((bar : Bar) → P (BarItem bar)) → P (last_item kept.stop) → Each P (items_from f kept from)
each_item P f kept from bars last = each_by P f kept (f.last + 1 - from) from (omega arith) bars last

each_row : (P : Item → Type 0) (rows : List (ℕ × CoarseRow)) (last : Item) → ((row : ℕ × CoarseRow) → P (coarse_item row)) → P last → Each P (map coarse_item rows ++ last ∷ [])
each_row P [] last rows_are is = (is, tt)
each_row P (row ∷ rows) last rows_are is = (rows_are row, each_row P rows last rows_are is)

last_of_kind : (kind : FeedKind) (stop : Option Bad) → IsOfKind kind (last_item stop)
last_of_kind Coarse None = tt
last_of_kind Coarse (Some bad) = tt
last_of_kind (Equity symbol resolution) None = tt
last_of_kind (Equity symbol resolution) (Some bad) = tt

last_in_file : (stop : Option Bad) → StopsInFile stop → IsInFile (last_item stop)
last_in_file None is = tt
last_in_file (Some bad) is = is

-- ---- the list of the coarse feed

no_bars : (t : ℕ) (rows : List (ℕ × CoarseRow)) (stop : Option Bad) → bars_ending t (map coarse_item rows ++ last_item stop ∷ []) ≡ []
no_bars t [] None = refl
no_bars t [] (Some bad) = refl
no_bars t (row ∷ rows) stop = no_bars t rows stop

rows_by : (t : ℕ) (rows : List (ℕ × CoarseRow)) (stop : Option Bad) → list_all (is_by t) (map coarse_item rows ++ last_item stop ∷ []) ≡ list_all (λ row. nat_le row.0 t) rows
rows_by t [] None = refl
rows_by t [] (Some bad) = refl
rows_by t (row ∷ rows) stop = ap (λ b. nat_le row.0 t && b) (rows_by t rows stop)

rows_stop_in : (rows : List (ℕ × CoarseRow)) (stop : Option Bad) → stop_in (map coarse_item rows ++ last_item stop ∷ []) ≡ stop
rows_stop_in [] None = refl
rows_stop_in [] (Some bad) = refl
rows_stop_in (row ∷ rows) stop = rows_stop_in rows stop

coarse_blocked_told : (kept : Kept (ℕ × CoarseRow)) (t : ℕ) → blocked_in (coarse_items kept) t ≡ coarse_blocked kept t
coarse_blocked_told kept t = ap₂ (λ b stop. let s : Option Bad = stop in if b then s else None) (rows_by t kept.rows kept.stop) (rows_stop_in kept.rows kept.stop)

at_start : (z : ℤ) (t : ℕ) → pos t ≤ℤ z → t ≤ from_1970 z
at_start (pos n) t low = omega (arith, ints, low)
at_start (negsuc n) t low = absurd (omega (arith, ints, low))

module _ (files : Files) (hours : Entries) (window : Window) (key : FeedKey) where
  pub of_kind : (kind : FeedKind) → Each (IsOfKind kind) (feed_of files hours window key kind)
  of_kind Coarse =
      each_row (IsOfKind Coarse) (coarse_of files hours window key).rows (last_item (coarse_of files hours window key).stop) (λ row. tt) (last_of_kind Coarse (coarse_of files hours window key).stop)
  of_kind (Equity symbol resolution) =
      each_item (IsOfKind (Equity symbol resolution)) (filling_of hours window key resolution) (bars_of files hours window key symbol resolution) 0 (λ bar. tt)
      (last_of_kind (Equity symbol resolution) (bars_of files hours window key symbol resolution).stop)

  pub in_file : IsWindow window → (kind : FeedKind) → key.kind ≡ kind → Each IsInFile (feed_of files hours window key kind)
  in_file is_window Coarse is =
      each_row IsInFile (coarse_of files hours window key).rows (last_item (coarse_of files hours window key).stop) (λ row. tt)
      (last_in_file (coarse_of files hours window key).stop (rows_stop files hours window key is_window is))
  in_file is_window (Equity symbol resolution) is =
      each_item IsInFile (filling_of hours window key resolution) (bars_of files hours window key symbol resolution) 0 (λ bar. tt)
      (last_in_file (bars_of files hours window key symbol resolution).stop (bars_stop files hours window key symbol resolution is_window is))

  pub now_of : (kind : FeedKind) (t : ℕ)
      → feed_bars_of files hours window key kind (t + 1)
      ≡ feed_bars_of files hours window key kind t ++ option_to_list (find (ends_at (t + 1)) (feed_bars_of files hours window key kind (t + 1)))
  now_of Coarse t = refl
  now_of (Equity symbol resolution) t =
      let s = source files hours window key symbol resolution in
      grown.next s t ∙ ap (λ o. bars_by s t ++ option_to_list o) (sym (grown.now s (t + 1)))

  module _ (every : LieInDays hours) (is_window : IsWindow window) where
    pub ends : (symbol : List ℕ) (resolution : Resolution) → key.kind ≡ Equity symbol resolution → EndBy (last_moment window) (bars_of files hours window key symbol resolution).rows
    ends symbol resolution is =
        sound_end key.start.0 (last_moment window) (bars_of files hours window key symbol resolution).rows (kept_are files hours window key symbol resolution every is_window is).0

    pub bars_told_of : (symbol : List ℕ) (resolution : Resolution) → key.kind ≡ Equity symbol resolution → (t : ℕ)
        → bars_ending t (feed_of files hours window key (Equity symbol resolution))
        ≡ option_to_list (bar_at (filling_of hours window key resolution) (bars_of files hours window key symbol resolution) t)
    bars_told_of symbol resolution is t = bars_told (filling_of hours window key resolution) (bars_of files hours window key symbol resolution) t (ends symbol resolution is)

    pub grow_of : (kind : FeedKind) → key.kind ≡ kind → (before t : ℕ) → before < t
        → ((u : ℕ) → before < u → u < t → bars_ending u (feed_of files hours window key kind) ≡ [])
        → feed_bars_of files hours window key kind t ≡ feed_bars_of files hours window key kind before ++ bars_ending t (feed_of files hours window key kind)
    grow_of Coarse is before t low none = sym (no_bars t (coarse_of files hours window key).rows (coarse_of files hours window key).stop)
    grow_of (Equity symbol resolution) is before t low none =
        let s = source files hours window key symbol resolution in
        let told = bars_told_of symbol resolution is in
        grown.grow s before t low (λ u l h. none_listed (bar_at s.filling s.kept u) (sym (none u l h) ∙ told u))
        ∙ ap (λ xs. bars_by s before ++ xs) (sym (told t))

    pub none_of : (kind : FeedKind) → key.kind ≡ kind → (t : ℕ) → pos t ≤ℤ key.start.0 → feed_bars_of files hours window key kind t ≡ []
    none_of Coarse is t low = refl
    none_of (Equity symbol resolution) is t low =
        let s = source files hours window key symbol resolution in
        let rises = (kept_are files hours window key symbol resolution every is_window is).1 in
        let early = at_start key.start.0 t low in
        grown.none s t (λ u le. bar_early s.filling s.kept (from_1970 key.start.0) u rises (omega (arith, le, early)))

    pub blocked_of : (kind : FeedKind) → key.kind ≡ kind → (t : ℕ) → blocked_in (feed_of files hours window key kind) t ≡ feed_blocked_of files hours window key kind t
    blocked_of Coarse is t = coarse_blocked_told (coarse_of files hours window key) t
    blocked_of (Equity symbol resolution) is t = sym (blocked_told (filling_of hours window key resolution) (bars_of files hours window key symbol resolution) t (ends symbol resolution is))

    bar_is_sound : (symbol : List ℕ) (resolution : Resolution) → key.kind ≡ Equity symbol resolution → (u : ℕ) (bar : Bar)
        → bar_at (filling_of hours window key resolution) (bars_of files hours window key symbol resolution) u ≡ Some bar → IsSound key.start.0 (last_moment window) bar
    bar_is_sound symbol resolution is u bar here =
        let f = filling_of hours window key resolution in
        let kept = bars_of files hours window key symbol resolution in
        elim (cases_lt (last_moment window) u) [
          | inl past ↦ absurd (none_some (sym (bar_late f kept u (ends symbol resolution is) past) ∙ here))
          | inr within ↦ bar_sound key.start.0 f kept u bar (last_small window is_window) (kept_are files hours window key symbol resolution every is_window is).0 within here
        ]

    pub known_sound : (kind : FeedKind) → key.kind ≡ kind → (t : ℕ) → Each (IsSound key.start.0 (last_moment window)) (feed_bars_of files hours window key kind t)
    known_sound Coarse is t = tt
    known_sound (Equity symbol resolution) is t =
        grown.each (source files hours window key symbol resolution) (IsSound key.start.0 (last_moment window)) (bar_is_sound symbol resolution is) t
