-- Each bar of a security is one of the grid of its resolution.
use Rattle.std.proofs.Common.{◌≡◌, ℕ, ◌+◌, ◌*◌, ◌/◌, ◌%◌, ◌<◌, ◌≤◌, ℤ, pos, int_lt, List, [], ◌∷◌, Bool, true, false, refl, sym, ap, ◌∙◌, subst, arith, inl, inr, map}
use Rattle.std.specs.Prelude.{Option, Some, None, Result, Ok, Err, ◌&&◌, not, nat_le, unsigned_abs, if◌then◌else◌, filter_map, flat_map}
use Rattle.std.specs.List.{cons_option}
use Rattle.std.proofs.lemmas.Bool.{and_parts, and_from, cases_lt}
use Rattle.std.proofs.lemmas.Nat.{div-add-mod'}
use Rattle.std.proofs.Math.Nat.{mod-lt, mul_assoc}
use Rattle.lean_fixed.specs.Fields.{fields}
use Rattle.lean_fixed.specs.Moments.{day_of, minute_of_day}
use Rattle.lean_fixed.specs.declared.resolution.Resolution.{Resolution}
use Rattle.lean_fixed.specs.declared.resolution.Resolution.TheVariants.{Minute, Hour, Daily}
use Rattle.lean_fixed.specs.declared.time.Window.{Window}
use Rattle.lean_fixed.proofs.RoundTrips.{day_of_digits-last}
use Rattle.lean_io.specs.Told.{Files}
use Rattle.lean_items.specs.declared.bar.Bar.{Bar}
use Rattle.lean_items.specs.declared.feed_key.FeedKey.{FeedKey}
use Rattle.lean_items.specs.declared.feed_key.FeedKind.TheVariants.{Equity}
use Rattle.lean_items.specs.declared.reason.Reason.{Reason}
use Rattle.lean_items.specs.declared.reason.Reason.TheVariants.{Order}
use Rattle.line_source.specs.Lines.{lines}
use Rattle.equity_csv.specs.declared.row.Row.{Row}
use Rattle.equity_csv.specs.Rows.{minute_row, dated_row, minute_start, dated_start}
use Rattle.equity_csv.proofs.SaidLemmas.{Said, said, dated-whole, daily-midnight}
use Rattle.exchange_hours.specs.Entries.{Entries}
use Rattle.exchange_hours.specs.Sessions.{LieInDays}
use Rattle.exchange_hours.specs.Grid.{in_session, is_bar, is_grid_bar, is_grid_end, bar_start, close_of}
use Rattle.exchange_hours.proofs.GridLemmas.{IsBar, bar_told, bar_tested, close_lies}
use Rattle.feed_paths.specs.Files.{files as numbers}
use Rattle.feed_paths.specs.Paths.{path_of}
use Rattle.clock_feeds.specs.Entries.{Entry, checked, row_before, in_order, entries}
use Rattle.clock_feeds.specs.Raw.{Raw, Timed, timed_says, raw_of, file_entries, equity_row, starts_after, equity_entries, start_of as start_of_row, equity_end, equity_raw}
use Rattle.clock_feeds.specs.Kept.{Kept, cut_at, cut, is_past, bar_of, kept_bar_at, kept_bar}
use Rattle.clock_feeds.specs.Bars.{Filling, end_of, ends_at, is_over, fills_at, bar_at}
use Rattle.clock_feeds.specs.Feeds.{bars_of, filling_of}
use Rattle.clock_feeds.specs.Slices.{source}
use Rattle.clock_feeds.specs.Stands.{EndBy}
use Rattle.clock_feeds.specs.Known.{bars_by}
use Rattle.clock_feeds.specs.Grid.{start_of, IsOnGrid, HoldsWhole, LiesInPeriod}
use Rattle.clock_feeds.proofs.SearchLemmas.{Each, each_both, found, same_some}
use Rattle.clock_feeds.proofs.ListLemmas.{bar_given, bar_ends}
use Rattle.clock_feeds.proofs.FileRowLemmas.{OnRow, AllValid, entries_valid, same_said, raw_file}
use Rattle.clock_feeds.proofs.GrowLemmas as grown

-- ---- the rows of files

-- a row starts from 1970 on, and an hour row at a whole hour, a daily row at 00:00
abbrev IsWhole : Resolution → ℕ → Type 0
IsWhole Minute start = Unit {0}
IsWhole Hour start = start % 60 ≡ 0
IsWhole Daily start = minute_of_day start ≡ 0

abbrev Starts : Resolution → Row → Type 0
Starts resolution row = (row.start.0 ≡ pos (start_of_row row)) × IsWhole resolution (start_of_row row)

from_said : (time : List ℕ → Option ℕ) (row : Row) → Said time row → row.start.0 ≡ pos (start_of_row row)
from_said time row s = subst (λ z. z ≡ pos (unsigned_abs z)) s.starts refl

whole_hour : (start : ℕ) → minute_of_day start % 60 ≡ 0 → start % 60 ≡ 0
whole_hour start h = omega (arith, h)

row_starts : (resolution : Resolution) (file : ℕ) (text : List ℕ) (row : Row) → equity_row resolution file text ≡ Some (Ok row) → Starts resolution row
unfolding minute_row dated_row
row_starts Minute file text row is = (from_said (minute_start file) row (said (minute_start file) (fields text) row (same_said is)), tt)
row_starts Hour file text row is = (
  from_said (dated_start Hour) row (said (dated_start Hour) (fields text) row (same_said is)),
  whole_hour (start_of_row row) (dated-whole day_of_digits-last Hour (fields text) row (same_said is)),
)
row_starts Daily file text row is = (
  from_said (dated_start Daily) row (said (dated_start Daily) (fields text) row (same_said is)),
  daily-midnight day_of_digits-last (fields text) row (same_said is),
)

module _ (Valid : Row → Type 0) where
  checked_valid : (before : Option Row) (says : Result Row Reason) → OnRow Valid says → OnRow Valid (checked starts_after before says)
  checked_valid before (Err reason) v = tt
  checked_valid None (Ok row) v = v
  checked_valid (Some first) (Ok row) v = by (starts_after first row)
    where
      by : (b : Bool) → OnRow Valid (if b then Ok row else Err Order)
      by true = v
      by false = tt

  order_valid : (before : Option Row) (es : List (Entry Row)) → AllValid Valid es → AllValid Valid (in_order starts_after before es)
  order_valid before [] v = tt
  order_valid before (entry ∷ es) v = (checked_valid before entry.says v.0, order_valid (row_before starts_after before entry.says) es v.1)

each_given : {X : Type 0} (P : X → Type 0) (gives : ℕ → List X) (ns : List ℕ) → ((n : ℕ) → Each P (gives n)) → Each P (flat_map gives ns)
each_given P gives [] each = tt
each_given P gives (n ∷ ns) each = each_both P (gives n) (flat_map gives ns) (each n) (each_given P gives ns each)

module _ (hours : Entries) (resolution : Resolution) where
  -- a row of the feed and the moment at which it ends
  abbrev IsTimed : Timed Row → Type 0
  IsTimed timed = Starts resolution timed.row × (timed.end ≡ equity_end hours resolution timed.row)

  abbrev SaysTimed : Result (Timed Row) Reason → Type 0
  SaysTimed (Ok timed) = IsTimed timed
  SaysTimed (Err reason) = Unit {0}

  says_timed : (says : Result Row Reason) → OnRow (Starts resolution) says → SaysTimed (timed_says (equity_end hours resolution) says)
  says_timed (Ok row) v = (v, refl)
  says_timed (Err reason) v = tt

  all_timed : (file : ℕ) (es : List (Entry Row)) → AllValid (Starts resolution) es → Each (λ raw. SaysTimed raw.says) (map (raw_of file (equity_end hours resolution)) es)
  all_timed file [] v = tt
  all_timed file (entry ∷ es) v = (says_timed entry.says v.0, all_timed file es v.1)

  file_timed : (files : Files) (symbol : List ℕ) (file : ℕ) → Each (λ raw. SaysTimed raw.says) (raw_file files hours symbol resolution file)
  file_timed files symbol file = by (files (path_of (Equity symbol resolution) file))
    where
      by : (o : Option (List ℕ)) → Each (λ raw. SaysTimed raw.says) (map (raw_of file (equity_end hours resolution)) (file_entries (equity_entries resolution file) o))
      by None = tt
      by (Some bytes) =
          all_timed file (equity_entries resolution file (lines bytes))
          (order_valid (Starts resolution) None (entries (equity_row resolution file) (lines bytes))
          (entries_valid (equity_row resolution file) (Starts resolution) (row_starts resolution file) (lines bytes)))

  cut_timed : (last : ℕ) (raw : List (Raw Row)) → Each (λ entry. SaysTimed entry.says) raw → Each IsTimed (cut last raw).rows
  cut_timed last [] each = tt
  cut_timed last (entry ∷ more) each = by entry.says each.0 (cut_timed last more each.1)
    where
      by : (says : Result (Timed Row) Reason) → SaysTimed says → Each IsTimed (cut last more).rows → Each IsTimed (cut_at last entry.file entry.line says (cut last more)).rows
      by (Err reason) v later = tt
      by (Ok timed) v later = with_row (is_past last timed.end)
        where
          with_row : (b : Bool) → Each IsTimed (let k : Kept (Timed Row) = if b then record { rows = []; stop = None } else record { rows = timed ∷ (cut last more).rows; stop = (cut last more).stop } in k).rows
          with_row true = tt
          with_row false = (v, later)

  row_is_bar : (r : Resolution) (row : Row) (end : ℕ) → IsWhole r (start_of_row row) → equity_end hours r row ≡ Some end → IsBar hours r (start_of_row row) end
  row_is_bar Minute row end whole is = sym (same_some is)
  row_is_bar Hour row end whole is = (whole, sym (same_some is))
  row_is_bar Daily row end whole is = (whole, is)

  kept_on_grid : (start : ℤ) (timed : Timed Row) (rest : List Bar) → IsTimed timed → Each (IsOnGrid hours resolution) rest → Each (IsOnGrid hours resolution) (cons_option (kept_bar hours start timed) rest)
  kept_on_grid start timed rest is later = by timed.end is.1
    where
      by : (o : Option ℕ) → o ≡ equity_end hours resolution timed.row → Each (IsOnGrid hours resolution) (cons_option (kept_bar_at hours start timed.row o) rest)
      by None e = later
      by (Some end) e = kept (int_lt start (pos end) && in_session hours (start_of_row timed.row) end) refl
        where
          kept : (b : Bool) → (int_lt start (pos end) && in_session hours (start_of_row timed.row) end) ≡ b
              → Each (IsOnGrid hours resolution) (cons_option (if b then Some (bar_of timed.row end) else None) rest)
          kept true passes =
              let here = (and_parts (int_lt start (pos end)) (in_session hours (start_of_row timed.row) end) passes).1 in (
                record {
                  start = is.0.0;
                  end = refl;
                  is =
                      and_from (is_bar hours resolution (start_of_row timed.row) end) (in_session hours (start_of_row timed.row) end)
                      (bar_tested hours resolution (start_of_row timed.row) end (row_is_bar resolution timed.row end is.0.1 (sym e))) here;
                },
                later,
              )
          kept false passes = later

  rows_on_grid : (start : ℤ) (all : List (Timed Row)) → Each IsTimed all → Each (IsOnGrid hours resolution) (filter_map (kept_bar hours start) all)
  rows_on_grid start [] each = tt
  rows_on_grid start (timed ∷ all) each = kept_on_grid start timed (filter_map (kept_bar hours start) all) each.0 (rows_on_grid start all each.1)

kept_are_on_grid : (files : Files) (hours : Entries) (window : Window) (key : FeedKey) (symbol : List ℕ) (resolution : Resolution)
    → Each (IsOnGrid hours resolution) (bars_of files hours window key symbol resolution).rows
unfolding bars_of equity_raw
kept_are_on_grid files hours window key symbol resolution =
    rows_on_grid hours resolution key.start.0 (cut _ (flat_map (raw_file files hours symbol resolution) (numbers key window hours))).rows
    (cut_timed hours resolution _ (flat_map (raw_file files hours symbol resolution) (numbers key window hours))
    (each_given (λ entry. SaysTimed hours resolution entry.says) (raw_file files hours symbol resolution) (numbers key window hours) (file_timed hours resolution files symbol)))

-- ---- filled bars

filled_at : (f : Filling) (kept : Kept Bar) (t : ℕ) → fills_at f kept t ≡ true → is_grid_end f.hours f.resolution t ≡ true
filled_at f kept t is =
    let more = (and_parts f.fills (nat_le t f.last && (is_grid_end f.hours f.resolution t && not (is_over kept t))) is).1 in
    let grid = (and_parts (nat_le t f.last) (is_grid_end f.hours f.resolution t && not (is_over kept t)) more).1 in
    (and_parts (is_grid_end f.hours f.resolution t) (not (is_over kept t)) grid).0

end_is_bar : (hours : Entries) (resolution : Resolution) (t : ℕ) → is_grid_end hours resolution t ≡ true → is_grid_bar hours resolution (bar_start resolution t) t ≡ true
unfolding is_grid_end
end_is_bar hours resolution t is = is

-- the bar at a moment, read or filled
pub bar_on_grid : (f : Filling) (kept : Kept Bar) (t : ℕ) (bar : Bar) → Each (IsOnGrid f.hours f.resolution) kept.rows → bar_at f kept t ≡ Some bar → IsOnGrid f.hours f.resolution bar
bar_on_grid f kept t bar each is =
    elim (bar_given f kept t bar is) [
      | inl row ↦ (found (ends_at t) (IsOnGrid f.hours f.resolution) kept.rows bar each row).1
      | inr fresh ↦ subst (IsOnGrid f.hours f.resolution) fresh.2 (record { start = refl; end = refl; is = end_is_bar f.hours f.resolution t (filled_at f kept t fresh.3) })
    ]

pub feed_on_grid : (files : Files) (hours : Entries) (window : Window) (key : FeedKey) (symbol : List ℕ) (resolution : Resolution) (t : ℕ) (bar : Bar)
    → bar_at (filling_of hours window key resolution) (bars_of files hours window key symbol resolution) t ≡ Some bar → IsOnGrid hours resolution bar
feed_on_grid files hours window key symbol resolution t bar is =
    bar_on_grid (filling_of hours window key resolution) (bars_of files hours window key symbol resolution) t bar (kept_are_on_grid files hours window key symbol resolution) is

pub known_on_grid : (files : Files) (hours : Entries) (window : Window) (key : FeedKey) (symbol : List ℕ) (resolution : Resolution) (t : ℕ)
    → Each (IsOnGrid hours resolution) (bars_by (source files hours window key symbol resolution) t)
known_on_grid files hours window key symbol resolution t =
    grown.each (source files hours window key symbol resolution) (IsOnGrid hours resolution) (feed_on_grid files hours window key symbol resolution) t

-- ---- periods

minute_room : (start q m period : ℕ) → q + m ≡ start → m < period → start + 1 ≤ q + period
minute_room start q m period split low = omega (arith, split, low)

hour_room : (start q x n m period : ℕ) → q ≡ x * 60 → period ≡ n * 60 → q + m ≡ start → m < period → start % 60 ≡ 0 → start + 60 ≤ q + period
hour_room start q x n m period q_is p_is split low whole = omega (arith, q_is, p_is, split, low, whole)

day_room : (start q x n m period : ℕ) → q ≡ x * 1440 → period ≡ n * 1440 → q + m ≡ start → m < period → start % 1440 ≡ 0 → start + 1440 ≤ q + period
day_room start q x n m period q_is p_is split low whole = omega (arith, q_is, p_is, split, low, whole)

multiple : (k period n length : ℕ) → period ≡ n * length → k * period ≡ k * n * length
multiple k period n length is = ap (λ p. k * p) is ∙ sym (mul_assoc k n length)

hours_of : (period : ℕ) → period % 60 ≡ 0 → period ≡ period / 60 * 60
hours_of period whole = omega (arith, whole)

days_of : (period : ℕ) → period % 1440 ≡ 0 → period ≡ period / 1440 * 1440
days_of period whole = omega (arith, whole)

day_of_bar : (hours : Entries) → LieInDays hours → (start end : ℕ) → IsBar hours Daily start end → (start < end) × (end ≤ start + 1440)
day_of_bar hours every start end is = let lies = close_lies hours every (day_of start) end is.1 in (omega (arith, lies.0, is.0), omega (arith, lies.1, is.0))

bar_fits : (hours : Entries) → LieInDays hours → (resolution : Resolution) (period start end : ℕ) → HoldsWhole resolution period → IsBar hours resolution start end
    → (start < end) × (end ≤ start / period * period + period)
bar_fits hours every Minute period start end holds is =
    let room = minute_room start (start / period * period) (start % period) period (div-add-mod' start period) (mod-lt start holds.0) in
    (omega (arith, is), omega (arith, is, room))
bar_fits hours every Hour period start end holds is =
    let room = hour_room start (start / period * period) (start / period * (period / 60)) (period / 60) (start % period) period
    (multiple (start / period) period (period / 60) 60 (hours_of period holds.1)) (hours_of period holds.1) (div-add-mod' start period) (mod-lt start holds.0) is.0 in
    (omega (arith, is.1), omega (arith, is.1, room))
bar_fits hours every Daily period start end holds is =
    let room = day_room start (start / period * period) (start / period * (period / 1440)) (period / 1440) (start % period) period
    (multiple (start / period) period (period / 1440) 1440 (days_of period holds.1)) (days_of period holds.1) (div-add-mod' start period) (mod-lt start holds.0) is.0 in
    let day = day_of_bar hours every start end is in
    (day.0, omega (arith, day.1, room))

told : (hours : Entries) (resolution : Resolution) (bar : Bar) → IsOnGrid hours resolution bar → IsBar hours resolution (start_of bar) (end_of bar)
told hours resolution bar on =
    bar_told hours resolution (start_of bar) (end_of bar) (and_parts (is_bar hours resolution (start_of bar) (end_of bar)) (in_session hours (start_of bar) (end_of bar)) on.is).0

pub in_period : (hours : Entries) (resolution : Resolution) (period : ℕ) (bar : Bar) → LieInDays hours → HoldsWhole resolution period → IsOnGrid hours resolution bar → LiesInPeriod period bar
in_period hours resolution period bar every holds on =
    let fits = bar_fits hours every resolution period (start_of bar) (end_of bar) holds (told hours resolution bar on) in
    record { start = on.start; end = on.end; lasts = fits.0; within = fits.1 }

-- ---- bars one behind the other

apart_by : (hours : Entries) → LieInDays hours → (resolution : Resolution) (s e start end : ℕ) → IsBar hours resolution s e → IsBar hours resolution start end → e < end → e ≤ start
apart_by hours every Minute s e start end first second low = omega (arith, first, second, low)
apart_by hours every Hour s e start end first second low = omega (arith, first.0, first.1, second.0, second.1, low)
apart_by hours every Daily s e start end first second low =
    let one = day_of_bar hours every s e first in
    let two = day_of_bar hours every start end second in
    elim (cases_lt s start) [
      | inl up ↦ omega (arith, first.0, second.0, one.1, up)
      | inr over ↦ elim (cases_lt start s) [
        | inl down ↦ absurd (omega (arith, first.0, second.0, one.0, two.1, low, down))
        | inr under ↦ (
            let same : s ≡ start = omega (arith, over, under) in
            let ends : e ≡ end = same_some (sym first.1 ∙ ap (λ k. close_of hours (day_of k)) same ∙ second.1) in
            absurd (omega (arith, ends, low))
            )
      ]
    ]

pub apart : (hours : Entries) (resolution : Resolution) (earlier bar : Bar) → LieInDays hours → IsOnGrid hours resolution earlier → IsOnGrid hours resolution bar → end_of earlier < end_of bar
    → end_of earlier ≤ start_of bar
apart hours resolution earlier bar every first second low =
    apart_by hours every resolution (start_of earlier) (end_of earlier) (start_of bar) (end_of bar) (told hours resolution earlier first) (told hours resolution bar second) low

all_apart : (hours : Entries) (resolution : Resolution) (bar : Bar) (before : ℕ) (bars : List Bar) → LieInDays hours → IsOnGrid hours resolution bar → before < end_of bar
    → Each (IsOnGrid hours resolution) bars → EndBy before bars → EndBy (start_of bar) bars
all_apart hours resolution bar before [] every on low each ends = tt
all_apart hours resolution bar before (earlier ∷ bars) every on low each ends = (
  apart hours resolution earlier bar every each.0 on (omega (arith, low, ends.0)),
  all_apart hours resolution bar before bars every on low each.1 ends.1,
)

pub behind_all : (files : Files) (hours : Entries) (window : Window) (key : FeedKey) (symbol : List ℕ) (resolution : Resolution) (before t : ℕ) (bar : Bar) → LieInDays hours → before < t
    → bar_at (filling_of hours window key resolution) (bars_of files hours window key symbol resolution) t ≡ Some bar
    → EndBy (start_of bar) (bars_by (source files hours window key symbol resolution) before)
behind_all files hours window key symbol resolution before t bar every low is =
    let s = source files hours window key symbol resolution in
    let e = bar_ends s.filling s.kept t bar is in
    all_apart hours resolution bar before (bars_by s before) every (feed_on_grid files hours window key symbol resolution t bar is) (omega (arith, e, low))
    (known_on_grid files hours window key symbol resolution before) (grown.end s before)
