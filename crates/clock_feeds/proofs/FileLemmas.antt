-- The malformed line of a feed is one of a file of the feed.
use Rattle.std.proofs.Common.{◌≡◌, ℕ, zero, suc, ◌+◌, ◌-◌, ◌<◌, ◌≤◌, ◌⊎◌, ℤ, pos, negsuc, ◌≤ℤ◌, ◌-ℤ◌, List, [], ◌∷◌, ◌++◌, Bool, true, false, sym, subst, arith, map, inl, inr}
use Rattle.std.specs.Prelude.{Option, None, Result, Ok, Err, if◌then◌else◌, filter, flat_map}
use Rattle.std.specs.List.{AllByRecursion as Each, range_with_len}
use Rattle.std.proofs.lemmas.Bool.{cases_Bool}
use Rattle.std.proofs.lemmas.Int.{ints}
use Rattle.lean_fixed.specs.Calendar.{last_day}
use Rattle.lean_fixed.specs.Ranges.{IsWindow}
use Rattle.lean_fixed.specs.declared.resolution.Resolution.{Resolution}
use Rattle.lean_fixed.specs.declared.resolution.Resolution.TheVariants.{Minute, Hour, Daily}
use Rattle.lean_fixed.specs.declared.time.Window.{Window}
use Rattle.lean_io.specs.Told.{Files}
use Rattle.lean_items.specs.declared.feed_key.FeedKey.{FeedKey}
use Rattle.lean_items.specs.declared.feed_key.FeedKind.TheVariants.{Coarse, Equity}
use Rattle.lean_items.specs.declared.reason.Reason.{Reason}
use Rattle.exchange_hours.specs.Entries.{Entries}
use Rattle.feed_paths.specs.Files.{from_1970, day_of, days, files_of, files as numbers, has_session}
use Rattle.feed_paths.specs.Paths.{path_of}
use Rattle.clock_feeds.specs.Entries.{Entry}
use Rattle.clock_feeds.specs.Raw.{Raw, Timed, raw_of, file_entries, equity_end, equity_entries, equity_raw, coarse_end, coarse_entries, coarse_raw}
use Rattle.clock_feeds.specs.Kept.{Kept, cut_at, cut, is_past}
use Rattle.clock_feeds.specs.Feeds.{bars_of, coarse_of}
use Rattle.clock_feeds.specs.Lists.{StopsInFile}

-- a file has the number of a day
abbrev IsFile : ℕ → Type 0
IsFile file = file ≤ last_day

module _ {X : Type 0} where
  abbrev IsOf : Raw X → Type 0
  IsOf entry = IsFile entry.file

  of_file : (file : ℕ) (end_of : X → Option ℕ) (all : List (Entry X)) → IsFile file → Each IsOf (map (raw_of file end_of) all)
  of_file file end_of [] is = tt
  of_file file end_of (entry ∷ all) is = (is, of_file file end_of all is)

  of_both : (xs ys : List (Raw X)) → Each IsOf xs → Each IsOf ys → Each IsOf (xs ++ ys)
  of_both [] ys h k = k
  of_both (x ∷ xs) ys h k = (h.0, of_both xs ys h.1 k)

  pub of_files : (gives : ℕ → List (Raw X)) (files : List ℕ) → ((file : ℕ) → IsFile file → Each IsOf (gives file)) → Each IsFile files → Each IsOf (flat_map gives files)
  of_files gives [] each are = tt
  of_files gives (file ∷ files) each are = of_both (gives file) (flat_map gives files) (each file are.0) (of_files gives files each are.1)

  cut_choice : (b : Bool) (timed : Timed X) (later : Kept (Timed X)) → StopsInFile later.stop
      → StopsInFile (if b then (let k : Kept (Timed X) = record { rows = []; stop = None } in k) else (let k : Kept (Timed X) = record { rows = timed ∷ later.rows; stop = later.stop } in k)).stop
  cut_choice true timed later h = tt
  cut_choice false timed later h = h

  cut_one : (last file line : ℕ) (says : Result (Timed X) Reason) (later : Kept (Timed X)) → IsFile file → StopsInFile later.stop → StopsInFile (cut_at last file line says later).stop
  cut_one last file line (Err reason) later is h = is
  cut_one last file line (Ok timed) later is h = cut_choice (is_past last timed.end) timed later h

  pub cut_stops : (last : ℕ) (raw : List (Raw X)) → Each IsOf raw → StopsInFile (cut last raw).stop
  cut_stops last [] h = tt
  cut_stops last (entry ∷ more) h = cut_one last entry.file entry.line entry.says (cut last more) h.0 (cut_stops last more h.1)

-- ---- the numbers of the files

in_range : (most from n : ℕ) → from + n ≤ most + 1 → Each (λ file. file ≤ most) (range_with_len from n)
in_range most from zero le = tt
in_range most from (suc n) le = (omega (arith, le), in_range most (from + 1) n (omega (arith, le)))

up_to : (first : ℕ) (last : ℤ) → last ≤ℤ pos last_day → Each IsFile (days first last)
up_to first (pos last) le = step (omega (arith, ints, le))
  where
    step : last ≤ last_day → Each IsFile (range_with_len first (last + 1 - first))
    step small = elim (order first (last + 1)) [
      | inl h ↦ in_range last_day first (last + 1 - first) (omega (arith, h, small))
      | inr h ↦ (let none : last + 1 - first ≡ 0 = omega (arith, h) in rw none tt)
    ]
      where
        order : (a b : ℕ) → (a ≤ b) ⊎ (b < a)
        order zero b = inl (omega arith)
        order (suc a) zero = inr (omega arith)
        order (suc a) (suc b) = elim (order a b) [ inl h ↦ inl (omega (arith, h)) | inr h ↦ inr (omega (arith, h)) ]
up_to first (negsuc last) le = (let none : 0 - first ≡ 0 = omega arith in rw none tt)

some_of : (test : ℕ → Bool) (files : List ℕ) → Each IsFile files → Each IsFile (filter test files)
some_of test [] are = tt
some_of test (file ∷ files) are = elim (cases_Bool (test file)) [
  | inl h ↦ rw h (are.0, some_of test files are.1)
  | inr h ↦ rw h (some_of test files are.1)
]

equity_files : (symbol : List ℕ) (resolution : Resolution) (start : ℤ) (window : Window) (hours : Entries) → IsWindow window → Each IsFile (files_of (Equity symbol resolution) start window hours)
equity_files symbol Minute start window hours is =
    let most = is.last.1 in
    some_of (has_session hours) (days (day_of start) window.last.0) (up_to (day_of start) window.last.0 (omega (arith, ints, most)))
equity_files symbol Hour start window hours is = (omega arith, tt)
equity_files symbol Daily start window hours is = (omega arith, tt)

pub bars_stop : (files : Files) (hours : Entries) (window : Window) (key : FeedKey) (symbol : List ℕ) (resolution : Resolution) → IsWindow window
    → key.kind ≡ Equity symbol resolution → StopsInFile (bars_of files hours window key symbol resolution).stop
unfolding bars_of equity_raw
bars_stop files hours window key symbol resolution is_window is =
    let are : Each IsFile (numbers key window hours)
    = subst (λ kind. Each IsFile (files_of kind key.start.0 window hours)) (sym is) (equity_files symbol resolution key.start.0 window hours is_window) in
    cut_stops _ (equity_raw files hours symbol resolution (numbers key window hours))
    (of_files _ (numbers key window hours)
    (λ file one. of_file file (equity_end hours resolution) (file_entries (equity_entries resolution file) (files (path_of (Equity symbol resolution) file))) one) are)

-- the same of the coarse files
pub rows_stop : (files : Files) (hours : Entries) (window : Window) (key : FeedKey) → IsWindow window → key.kind ≡ Coarse → StopsInFile (coarse_of files hours window key).stop
unfolding coarse_of coarse_raw
rows_stop files hours window key is_window is =
    let most = is_window.last.1 in
    let are : Each IsFile (numbers key window hours)
    = subst (λ kind. Each IsFile (files_of kind key.start.0 window hours)) (sym is) (up_to (from_1970 (window.first.0 -ℤ pos 1)) (window.last.0 -ℤ pos 1) (omega (arith, ints, most))) in
    cut_stops _ (coarse_raw files (numbers key window hours))
    (of_files _ (numbers key window hours) (λ file one. of_file file (coarse_end file) (file_entries coarse_entries (files (path_of Coarse file))) one) are)
