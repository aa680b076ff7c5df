-- The lists of the feeds of a session tape, and what ends at a moment in them.
use Rattle.std.proofs.Common.{◌≡◌, ℕ, suc, ◌+◌, ◌≤◌, Bool, true, false, pos, List, [], ◌∷◌, ◌++◌, map, length, Option, Some, None, refl, sym, ap, ◌∙◌, subst, arith, append_assoc}
use Rattle.std.specs.Prelude.{if◌then◌else◌, option_map, slice_get}
use Rattle.std.specs.List.{All, filter, list_all}
use Rattle.std.specs.Option.{option_or, option_to_list}
use Rattle.std.proofs.lemmas.Bool.{false≢true}
use Rattle.std.proofs.lemmas.Int.{ints}
use Rattle.std.proofs.lemmas.List.Elements.{All-nil, All-cons, filter_map-append}
use Rattle.lean_fixed.specs.Calendar.{last_day}
use Rattle.lean_fixed.specs.Moments.{first_moment, last_moment}
use Rattle.lean_fixed.specs.Ranges.{IsWindow}
use Rattle.lean_fixed.specs.declared.resolution.Resolution.{Resolution}
use Rattle.lean_fixed.specs.declared.time.Window.{Window}
use Rattle.lean_io.specs.Told.{Files}
use Rattle.lean_items.specs.declared.bad.Bad.{Bad as BadLine}
use Rattle.lean_items.specs.declared.bar.Bar.{Bar as BarValue}
use Rattle.lean_items.specs.declared.feed_key.FeedKey.{FeedKey}
use Rattle.lean_items.specs.declared.feed_no.FeedNo.{FeedNo}
use Rattle.lean_items.specs.declared.item.Item.{Item}
use Rattle.lean_items.specs.declared.item.Item.TheVariants.{Bar}
use Rattle.lean_items.specs.Fits.{Rises}
use Rattle.exchange_hours.specs.Entries.{Entries}
use Rattle.clock_feeds.specs.Bars.{bar_at, ends_by, blocked}
use Rattle.clock_feeds.specs.Kept.{Kept}
use Rattle.clock_feeds.specs.Feeds.{bars_of, last_item}
use Rattle.clock_feeds.specs.Lists.{StopsInFile, list_of, bars_in, slice_in, refused_in, EndInWindows}
use Rattle.clock_feeds.specs.Slices.{Source, slice, refused}
use Rattle.clock_feeds.proofs.CutLemmas.{sound_end}
use Rattle.clock_feeds.proofs.FileLemmas.{bars_stop}
use Rattle.clock_feeds.proofs.FeedLemmas.{kept_are, feed_rises, feed_plain}
use Rattle.clock_feeds.proofs.SliceLemmas.{bar_early, slice_told, refused_told}
use Rattle.frontier_sync.specs.Heads.{arrival}
use Rattle.frontier_sync.specs.Slices.{ends_at}
use Rattle.frontier_sync.specs.Rising.{EndsOnce}
use Rattle.frontier_sync.specs.Stands.{IsList, AreLists, is_coarse, AreBars, slice_at}
use Rattle.session_tape.specs.Session.{SessionBar, Refusal, session_key, session_source, session_sources}
use Rattle.session_tape.specs.Shown.{shown_one, shown}
use Rattle.session_tape.specs.Walked.{keys_of, AreFeeds}
use Rattle.session_tape.proofs.RowLemmas.{shown_here}

bars_once : (rows : List BarValue) (stop : Option BadLine) → EndsOnce (map Bar rows ++ last_item stop ∷ [])
bars_once [] None = (λ last. refl, tt)
bars_once [] (Some bad) = (λ last. refl, tt)
bars_once (bar ∷ rows) stop = (λ last. absurd (false≢true last), bars_once rows stop)

last_no_coarse : (stop : Option BadLine) → is_coarse (last_item stop) ≡ false
last_no_coarse None = refl
last_no_coarse (Some bad) = refl

bars_alone : (rows : List BarValue) (stop : Option BadLine) → AreBars (map Bar rows ++ last_item stop ∷ [])
bars_alone [] stop = All-cons (λ item. is_coarse item ≡ false) (last_item stop) [] (last_no_coarse stop) (All-nil (λ item. is_coarse item ≡ false))
bars_alone (bar ∷ rows) stop = All-cons (λ item. is_coarse item ≡ false) (Bar bar) (map Bar rows ++ last_item stop ∷ []) refl (bars_alone rows stop)

-- the element behind a front
pub behind_front : (front rest : List (List ℕ)) (symbol : List ℕ) → slice_get (front ++ symbol ∷ rest) (length front) ≡ Some symbol
behind_front [] rest symbol = refl
behind_front (x ∷ front) rest symbol = behind_front front rest symbol

pub one_more : (front : List (List ℕ)) (symbol : List ℕ) → length (front ++ symbol ∷ []) ≡ length front + 1
one_more [] symbol = refl
one_more (x ∷ front) symbol = (let h = one_more front symbol in omega (arith, h))

module _ (files : Files) (hours : Entries) (resolution : Resolution) (window : Window) (is_window : IsWindow window) (lists : FeedKey → List Item)
    (are : AreFeeds lists files hours window) where
  abbrev key : List ℕ → FeedKey
  key symbol = session_key resolution window symbol

  abbrev kept : List ℕ → Kept BarValue
  kept symbol = bars_of files hours window (key symbol) symbol resolution

  abbrev pub named : List ℕ → List ℕ × List Item
  named symbol = (symbol, lists (key symbol))

  abbrev sources : List (List ℕ) → List (List ℕ × Source)
  sources symbols = session_sources files hours resolution window symbols

  list_is : (symbol : List ℕ) → lists (key symbol) ≡ map Bar (kept symbol).rows ++ last_item (kept symbol).stop ∷ []
  list_is symbol = are.same (key symbol) ∙ feed_plain files hours window (key symbol) are.lie is_window refl

  pub list_rises : (symbol : List ℕ) → Rises (pos (first_moment window)) (lists (key symbol))
  list_rises symbol = subst (Rises (pos (first_moment window))) (sym (are.same (key symbol))) (feed_rises files hours window (key symbol) are.lie is_window)

  pub is_list : (symbol : List ℕ) → IsList (lists (key symbol))
  is_list symbol = record {
    after = pos (first_moment window);
    rises = list_rises symbol;
    once = subst EndsOnce (sym (list_is symbol)) (bars_once (kept symbol).rows (kept symbol).stop);
  }

  pub are_bars : (symbol : List ℕ) → AreBars (lists (key symbol))
  are_bars symbol = subst AreBars (sym (list_is symbol)) (bars_alone (kept symbol).rows (kept symbol).stop)

  pub are_lists : (symbols : List (List ℕ)) → AreLists lists (keys_of resolution window symbols)
  are_lists [] = All-nil (λ k. IsList (lists k))
  are_lists (symbol ∷ symbols) = All-cons (λ k. IsList (lists k)) (key symbol) (keys_of resolution window symbols) (is_list symbol) (are_lists symbols)

  pub all_bars : (symbols : List (List ℕ)) → All (λ k. AreBars (lists k)) (keys_of resolution window symbols)
  all_bars [] = All-nil (λ k. AreBars (lists k))
  all_bars (symbol ∷ symbols) = All-cons (λ k. AreBars (lists k)) (key symbol) (keys_of resolution window symbols) (are_bars symbol) (all_bars symbols)

  -- ---- the definition's slices are those of the lists

  in_windows : (symbols : List (List ℕ)) → EndInWindows (sources symbols)
  in_windows [] = tt
  in_windows (symbol ∷ symbols) = (
    sound_end (key symbol).start.0 (last_moment window) (kept symbol).rows (kept_are files hours window (key symbol) symbol resolution are.lie is_window refl).0,
    in_windows symbols,
  )

  same_lists : (symbols : List (List ℕ)) → map list_of (sources symbols) ≡ map named symbols
  same_lists [] = refl
  same_lists (symbol ∷ symbols) =
      ap (λ items. (let l : List ℕ × List Item = (symbol, items) in l) ∷ map list_of (sources symbols)) (sym (are.same (key symbol))) ∙ ap (λ ls. named symbol ∷ ls) (same_lists symbols)

  pub slice_same : (t : ℕ) (symbols : List (List ℕ)) → slice (sources symbols) t ≡ slice_in (map named symbols) t
  slice_same t symbols = slice_told t (sources symbols) (in_windows symbols) ∙ ap (λ ls. slice_in ls t) (same_lists symbols)

  pub refused_same : (t : ℕ) (symbols : List (List ℕ)) → refused (sources symbols) t ≡ refused_in (map named symbols) t
  refused_same t symbols = refused_told t (sources symbols) (in_windows symbols) ∙ ap (λ ls. refused_in ls t) (same_lists symbols)

  -- ---- what the merge gives is shown as the slice

  shown_rest : (all front rest : List (List ℕ)) (t : ℕ) → all ≡ front ++ rest
      → shown all (slice_at lists (pos t) (length front) (keys_of resolution window rest)) ≡ slice_in (map named rest) t
  shown_rest all front [] t is = refl
  shown_rest all front (symbol ∷ rest) t is =
      let n = length front in
      let number : FeedNo = record { 0 = n } in
      let items = lists (key symbol) in
      let at : slice_get all n ≡ Some symbol = ap (λ xs. slice_get xs n) is ∙ behind_front front rest symbol in
      let first = shown_here all n t symbol at (pos (first_moment window)) items (omega (arith, ints)) (list_rises symbol) in
      let behind : all ≡ (front ++ symbol ∷ []) ++ rest = is ∙ sym (append_assoc front (symbol ∷ []) rest) in
      let later = subst (λ k. shown all (slice_at lists (pos t) k (keys_of resolution window rest)) ≡ slice_in (map named rest) t) (one_more front symbol)
      (shown_rest all (front ++ symbol ∷ []) rest t behind) in
      filter_map-append (shown_one all) (map (arrival number) (filter (ends_at (pos t)) items)) (slice_at lists (pos t) (n + 1) (keys_of resolution window rest))
      ∙ ap (λ xs. xs ++ shown all (slice_at lists (pos t) (n + 1) (keys_of resolution window rest))) first
      ∙ ap (λ xs. bars_in t (named symbol) ++ xs) later

  pub shown_slice : (symbols : List (List ℕ)) (t : ℕ) → shown symbols (slice_at lists (pos t) 0 (keys_of resolution window symbols)) ≡ slice (sources symbols) t
  shown_slice symbols t = shown_rest symbols [] symbols t refl ∙ sym (slice_same t symbols)

  -- ---- nothing ends at the first moment

  pub first_none : (symbols : List (List ℕ)) → slice (sources symbols) (first_moment window) ≡ []
  first_none [] = refl
  first_none (symbol ∷ symbols) =
      let rise = (kept_are files hours window (key symbol) symbol resolution are.lie is_window refl).1 in
      let source = (session_source files hours resolution window symbol).1 in
      let none : bar_at source.filling source.kept (first_moment window) ≡ None = bar_early source.filling source.kept (first_moment window) (first_moment window) rise (omega arith) in
      ap (λ o. option_to_list (option_map (λ bar. let b : SessionBar = (symbol, bar) in b) o) ++ slice (sources symbols) (first_moment window)) none ∙ first_none symbols

  -- a minute has no more bars than there are symbols
  short_option : {A : Type 0} (o : Option A) → length (option_to_list o) ≤ 1
  short_option None = omega arith
  short_option (Some a) = omega arith

  pub slice_short : (symbols : List (List ℕ)) (t : ℕ) → length (slice (sources symbols) t) ≤ length symbols
  slice_short [] t = omega arith
  slice_short (symbol ∷ symbols) t =
      let source = (session_source files hours resolution window symbol).1 in
      step (option_to_list (option_map (λ bar. let b : SessionBar = (symbol, bar) in b) (bar_at source.filling source.kept t))) (slice (sources symbols) t) (length symbols) (short_option _) (slice_short symbols t)
    where
      step : (xs ys : List SessionBar) (n : ℕ) → length xs ≤ 1 → length ys ≤ n → length (xs ++ ys) ≤ suc n
      step [] ys n h k = omega (arith, k)
      step (x ∷ []) ys n h k = omega (arith, k)
      step (x ∷ y ∷ xs) ys n h k = absurd (omega (arith, h))

  -- ---- a malformed line that is due is one of a file with a number

  abbrev pub InFile : Option Refusal → Type 0
  InFile None = Unit {0}
  InFile (Some r) = r.1.file ≤ last_day

  if_stop : (b : Bool) (stop : Option BadLine) → StopsInFile stop → StopsInFile (if b then stop else None)
  if_stop true stop h = h
  if_stop false stop h = tt

  or_rest : (symbol : List ℕ) (stop : Option BadLine) (rest : Option Refusal) → StopsInFile stop → InFile rest
      → InFile (option_or (option_map (λ bad. let r : Refusal = (symbol, bad) in r) stop) rest)
  or_rest symbol None rest h later = later
  or_rest symbol (Some bad) rest h later = h

  pub due_in_file : (t : ℕ) (symbols : List (List ℕ)) → InFile (refused (sources symbols) t)
  due_in_file t [] = tt
  due_in_file t (symbol ∷ symbols) =
      or_rest symbol (blocked (kept symbol) t) (refused (sources symbols) t)
      (if_stop (list_all (ends_by t) (kept symbol).rows) (kept symbol).stop (bars_stop files hours window (key symbol) symbol resolution is_window refl))
      (due_in_file t symbols)
