-- The entries of a security's files rise: the rows of one file by their order, and those of two by their dates.
use Rattle.std.proofs.Common.{◌≡◌, ℕ, zero, suc, ◌+◌, ◌-◌, ◌/◌, ◌%◌, ◌<◌, ◌≤◌, ℤ, pos, negsuc, ◌<ℤ◌, ◌≤ℤ◌, int_lt, List, [], ◌∷◌, Bool, true, false, refl, sym, subst, arith, map, append-nil}
use Rattle.std.specs.Prelude.{Option, Some, None, option_map, Result, Ok, Err, cond, if◌then◌else◌, filter, flat_map}
use Rattle.std.specs.List.{cons_option, range_with_len}
use Rattle.std.proofs.lemmas.Int.{ints}
use Rattle.lean_fixed.specs.Calendar.{last_day}
use Rattle.lean_fixed.specs.Fields.{fields}
use Rattle.lean_fixed.specs.Moments.{midnight, day_of}
use Rattle.lean_fixed.specs.Ranges.{IsWindow}
use Rattle.lean_fixed.specs.declared.resolution.Resolution.{Resolution}
use Rattle.lean_fixed.specs.declared.resolution.Resolution.TheVariants.{Minute, Hour, Daily}
use Rattle.lean_fixed.specs.declared.time.Window.{Window}
use Rattle.lean_fixed.proofs.RoundTrips.{day_of_digits-last}
use Rattle.lean_io.specs.Told.{Files}
use Rattle.lean_items.specs.declared.feed_key.FeedKind.TheVariants.{Equity}
use Rattle.lean_items.specs.declared.reason.Reason.{Reason}
use Rattle.lean_items.specs.declared.reason.Reason.TheVariants.{Order}
use Rattle.line_source.specs.Lines.{FileLine, TextLine, BlankLine, LongLine, ManyLine, lines}
use Rattle.equity_csv.specs.declared.row.Row.{Row}
use Rattle.equity_csv.specs.Rows.{minute_row, dated_row}
use Rattle.equity_csv.specs.Written.{IsRow, day_of_row, minute_of_row}
use Rattle.equity_csv.proofs.SaidLemmas.{minute-valid, minute-of_day, dated-valid, daily-midnight}
use Rattle.exchange_hours.specs.Entries.{Entries}
use Rattle.exchange_hours.specs.Sessions.{LieInDays}
use Rattle.exchange_hours.proofs.GridLemmas.{close_lies, closings_rise}
use Rattle.feed_paths.specs.Files.{count_to, has_session, files_of, day_of as feed_day}
use Rattle.feed_paths.specs.Paths.{path_of}
use Rattle.clock_feeds.specs.Entries.{Entry, said, entries, checked, row_before, in_order}
use Rattle.clock_feeds.specs.Raw.{Raw, timed_says, raw_of, file_entries, equity_row, starts_after, equity_entries, start_of, equity_end, equity_raw}
use Rattle.clock_feeds.proofs.CutLemmas.{OnEnd, OnSays, Climbs, climbs_append, climbs_lower}
use Rattle.clock_feeds.proofs.SearchLemmas.{none_some, same_some}

abbrev pub Rising : ℕ → ℕ → Type 0
Rising a b = a < b

pub rising_weaker : (a b e : ℕ) → a ≤ b → b < e → a < e
rising_weaker a b e low up = omega (arith, low, up)

-- the rows of the entries that have one
abbrev pub OnRow : (Row → Type 0) → Result Row Reason → Type 0
OnRow Valid (Ok row) = Valid row
OnRow Valid (Err reason) = Unit {0}

abbrev pub AllValid : (Row → Type 0) → List (Entry Row) → Type 0
AllValid Valid [] = Unit {0}
AllValid Valid (entry ∷ more) = OnRow Valid entry.says × AllValid Valid more

-- a row that may stand behind another, or at the start of a file
abbrev Follows : Option Row → Row → Type 0
Follows None row = Unit {0}
Follows (Some before) row = starts_after before row ≡ true

pub later_start : (a b : ℤ) → int_lt a b ≡ true → a <ℤ b
later_start a b h = grind (arith, ints)

lt_tested : (a b : ℤ) → a <ℤ b → int_lt a b ≡ true
lt_tested a b h = grind (arith, ints)

follows_past : (before : Option Row) (row next : Row) → Follows before row → starts_after row next ≡ true → Follows before next
follows_past None row next first second = tt
follows_past (Some before) row next first second =
    let one = later_start before.start.0 row.start.0 first in
    let two = later_start row.start.0 next.start.0 second in
    lt_tested before.start.0 next.start.0 (omega (arith, ints, one, two))

-- The rows of one file: each good row ends behind those that start before it.
module _ (file until : ℕ) (end_of : Row → Option ℕ) (Valid : Row → Type 0) (good : (row : Row) → Valid row → IsRow row)
    (rise : (a b : Row) → Valid a → Valid b → a.start.0 <ℤ b.start.0 → (s t : ℕ) → end_of a ≡ Some s → end_of b ≡ Some t → s < t) where
  abbrev Above : ℕ → Option Row → Type 0
  Above after before = (row : Row) → Valid row → Follows before row → (end : ℕ) → end_of row ≡ Some end → (after < end) × (end ≤ until)

  row_step : (P : ℕ → Type 0) (after : ℕ) (before : Option Row) (row : Row) → Valid row → Follows before row → Above after before
      → ((at : ℕ) → Above at (Some row) → P at) → OnEnd Rising IsRow P after until row (end_of row)
  row_step P after before row valid follows above later = by (end_of row) refl
    where
      by : (o : Option ℕ) → end_of row ≡ o → OnEnd Rising IsRow P after until row o
      by None is = later after (λ next v f e h. above next v (follows_past before row next follows f) e h)
      by (Some end) is =
          let here = above row valid follows end is in (
            here.0,
            here.1,
            good row valid,
            later end (λ next v f e h. (rise row next valid v (later_start row.start.0 next.start.0 f) end e is h, (above next v (follows_past before row next follows f) e h).1)),
          )

  pub order_climbs : (after : ℕ) (before : Option Row) (es : List (Entry Row)) → AllValid Valid es → Above after before
      → Climbs Rising IsRow after until (map (raw_of file end_of) (in_order starts_after before es))
  order_climbs after before [] valid above = tt
  order_climbs after before (entry ∷ more) valid above = by entry.says valid.0 (λ at b a. order_climbs at b more valid.1 a)
    where
      by : (says : Result Row Reason) → OnRow Valid says
          → ((at : ℕ) (b : Option Row) → Above at b → Climbs Rising IsRow at until (map (raw_of file end_of) (in_order starts_after b more)))
          → OnSays Rising IsRow (λ at. Climbs Rising IsRow at until (map (raw_of file end_of) (in_order starts_after (row_before starts_after before says) more))) after until
          (timed_says end_of (checked starts_after before says))
      by (Err reason) v later = tt
      by (Ok row) v later = behind before above
        where
          behind : (b : Option Row) → Above after b
              → OnSays Rising IsRow (λ at. Climbs Rising IsRow at until (map (raw_of file end_of) (in_order starts_after (Some row) more))) after until
              (timed_says end_of (checked starts_after b (Ok row)))
          behind None a = row_step (λ at. Climbs Rising IsRow at until (map (raw_of file end_of) (in_order starts_after (Some row) more))) after None row v tt a (λ at. later at (Some row))
          behind (Some first) a = tested (starts_after first row) refl
            where
              tested : (t : Bool) → starts_after first row ≡ t
                  → OnSays Rising IsRow (λ at. Climbs Rising IsRow at until (map (raw_of file end_of) (in_order starts_after (Some row) more))) after until
                  (timed_says end_of (if t then Ok row else Err Order))
              tested true is = row_step (λ at. Climbs Rising IsRow at until (map (raw_of file end_of) (in_order starts_after (Some row) more))) after (Some first) row v is a (λ at. later at (Some row))
              tested false is = tt

-- ---- the entries of a file's lines

module _ (row : List ℕ → Option (Result Row Reason)) (Valid : Row → Type 0) (valid : (text : List ℕ) (r : Row) → row text ≡ Some (Ok r) → Valid r) where
  line_valid : (number : ℕ) (o : Option (Result Row Reason)) (rest : List (Entry Row)) → ((r : Row) → o ≡ Some (Ok r) → Valid r) → AllValid Valid rest
      → AllValid Valid (cons_option (option_map (λ says. record { line = number; says = says }) o) rest)
  line_valid number None rest says more = more
  line_valid number (Some (Ok r)) rest says more = (says r refl, more)
  line_valid number (Some (Err reason)) rest says more = (tt, more)

  said_valid : (line : FileLine) (r : Row) → said row line ≡ Some (Ok r) → Valid r
  said_valid BlankLine r is = absurd (none_some is)
  said_valid (TextLine text) r is = valid text r is
  said_valid LongLine r is = absurd cc
  said_valid ManyLine r is = absurd cc

  pub entries_valid : (all : List (ℕ × FileLine)) → AllValid Valid (entries row all)
  entries_valid [] = tt
  entries_valid (line ∷ more) = line_valid line.0 (said row line.1) (entries row more) (said_valid line.1) (entries_valid more)

-- ---- what the rows of each resolution say

pub same_said : {A : Type 0} {a b : A} → Some a ≡ Some b → a ≡ b
same_said h = cc

abbrev OfDay : ℕ → Row → Type 0
OfDay day row = IsRow row × (day_of_row row ≡ day)

abbrev OfMidnight : Row → Type 0
OfMidnight row = IsRow row × (minute_of_row row ≡ 0)

minute_valid : (day : ℕ) → day ≤ last_day → (text : List ℕ) (row : Row) → equity_row Minute day text ≡ Some (Ok row) → OfDay day row
unfolding minute_row
minute_valid day low text row is =
    (minute-valid day (fields text) row low (same_said is), minute-of_day day (fields text) row (same_said is))

hour_valid : (file : ℕ) (text : List ℕ) (row : Row) → equity_row Hour file text ≡ Some (Ok row) → IsRow row
unfolding dated_row
hour_valid file text row is = dated-valid day_of_digits-last Hour (fields text) row (same_said is)

daily_valid : (file : ℕ) (text : List ℕ) (row : Row) → equity_row Daily file text ≡ Some (Ok row) → OfMidnight row
unfolding dated_row
daily_valid file text row is =
    (dated-valid day_of_digits-last Daily (fields text) row (same_said is), daily-midnight day_of_digits-last (fields text) row (same_said is))

start_below : (row : Row) → IsRow row → start_of row < midnight (last_day + 1)
start_below row good = let h = good.start in omega (arith, ints, h.0, h.1)

starts_rise : (a b : Row) → IsRow a → IsRow b → a.start.0 <ℤ b.start.0 → start_of a < start_of b
starts_rise a b good_a good_b up = let h = good_a.start in let k = good_b.start in omega (arith, ints, h.0, k.0, up)

minute_rise : (hours : Entries) (day : ℕ) (a b : Row) → OfDay day a → OfDay day b → a.start.0 <ℤ b.start.0 → (s t : ℕ) → equity_end hours Minute a ≡ Some s → equity_end hours Minute b ≡ Some t → s < t
minute_rise hours day a b va vb up s t is next = let r = starts_rise a b va.0 vb.0 up in let i = same_some is in let j = same_some next in omega (arith, r, i, j)

hour_rise : (hours : Entries) (a b : Row) → IsRow a → IsRow b → a.start.0 <ℤ b.start.0 → (s t : ℕ) → equity_end hours Hour a ≡ Some s → equity_end hours Hour b ≡ Some t → s < t
hour_rise hours a b va vb up s t is next = let r = starts_rise a b va vb up in let i = same_some is in let j = same_some next in omega (arith, r, i, j)

days_apart : (a b : ℕ) → a % 1440 ≡ 0 → b % 1440 ≡ 0 → a < b → a / 1440 < b / 1440
days_apart a b p q up = omega arith

daily_rise : (hours : Entries) → LieInDays hours → (a b : Row) → OfMidnight a → OfMidnight b → a.start.0 <ℤ b.start.0
    → (s t : ℕ) → equity_end hours Daily a ≡ Some s → equity_end hours Daily b ≡ Some t → s < t
daily_rise hours every a b va vb up s t is next =
    closings_rise hours every (day_of (start_of a)) (day_of (start_of b)) s t (days_apart (start_of a) (start_of b) va.1 vb.1 (starts_rise a b va.0 vb.0 up)) is next

-- ---- a file

abbrev pub raw_file : Files → Entries → List ℕ → Resolution → ℕ → List (Raw Row)
raw_file files hours symbol resolution file =
    map (raw_of file (equity_end hours resolution)) (file_entries (equity_entries resolution file) (files (path_of (Equity symbol resolution) file)))

module _ (files : Files) (hours : Entries) (symbol : List ℕ) where
  minute_file : (day : ℕ) → day ≤ last_day → Climbs Rising IsRow (midnight day) (midnight (day + 1)) (raw_file files hours symbol Minute day)
  minute_file day low = by (files (path_of (Equity symbol Minute) day))
    where
      by : (o : Option (List ℕ)) → Climbs Rising IsRow (midnight day) (midnight (day + 1)) (map (raw_of day (equity_end hours Minute)) (file_entries (equity_entries Minute day) o))
      by None = tt
      by (Some bytes) =
          order_climbs day (midnight (day + 1)) (equity_end hours Minute) (OfDay day) (λ row v. v.0) (minute_rise hours day) (midnight day) None
          (entries (equity_row Minute day) (lines bytes)) (entries_valid (equity_row Minute day) (OfDay day) (minute_valid day low) (lines bytes))
          (λ row v f end is. let i = same_some is in let d = v.1 in (omega (arith, i, d), omega (arith, i, d)))

  pub hour_file : Climbs Rising IsRow 0 121000000 (raw_file files hours symbol Hour 0)
  hour_file = by (files (path_of (Equity symbol Hour) 0))
    where
      by : (o : Option (List ℕ)) → Climbs Rising IsRow 0 121000000 (map (raw_of 0 (equity_end hours Hour)) (file_entries (equity_entries Hour 0) o))
      by None = tt
      by (Some bytes) =
          order_climbs 0 121000000 (equity_end hours Hour) IsRow (λ row v. v) (hour_rise hours) 0 None
          (entries (equity_row Hour 0) (lines bytes)) (entries_valid (equity_row Hour 0) IsRow (hour_valid 0) (lines bytes))
          (λ row v f end is. let i = same_some is in let b = start_below row v in (omega (arith, i, b), omega (arith, i, b)))

  pub daily_file : LieInDays hours → Climbs Rising IsRow 0 121000000 (raw_file files hours symbol Daily 0)
  daily_file every = by (files (path_of (Equity symbol Daily) 0))
    where
      by : (o : Option (List ℕ)) → Climbs Rising IsRow 0 121000000 (map (raw_of 0 (equity_end hours Daily)) (file_entries (equity_entries Daily 0) o))
      by None = tt
      by (Some bytes) =
          order_climbs 0 121000000 (equity_end hours Daily) OfMidnight (λ row v. v.0) (daily_rise hours every) 0 None
          (entries (equity_row Daily 0) (lines bytes)) (entries_valid (equity_row Daily 0) OfMidnight (daily_valid 0) (lines bytes))
          (λ row v f end is. let i = close_lies hours every (day_of (start_of row)) end is in let b = start_below row v.0 in (omega (arith, i.0), omega (arith, i.1, b)))

  -- the minute files of some days
  minute_files : (n from after : ℕ) → after ≤ midnight from → ((day : ℕ) → from ≤ day → day < from + n → day ≤ last_day)
      → Climbs Rising IsRow after 121000000 (flat_map (raw_file files hours symbol Minute) (filter (has_session hours) (range_with_len from n)))
  minute_files zero from after low exist = tt
  minute_files (suc n) from after low exist =
      by (has_session hours from) (minute_files n (from + 1) (midnight (from + 1)) (omega arith) (λ day l h. exist day (omega (arith, l)) (omega (arith, h))))
    where
      here : from ≤ last_day
      here = exist from (omega arith) (omega arith)

      by : (b : Bool) → Climbs Rising IsRow (midnight (from + 1)) 121000000 (flat_map (raw_file files hours symbol Minute) (filter (has_session hours) (range_with_len (from + 1) n)))
          → Climbs Rising IsRow after 121000000 (flat_map (raw_file files hours symbol Minute)
          (cond b (from ∷ filter (has_session hours) (range_with_len (from + 1) n)) (filter (has_session hours) (range_with_len (from + 1) n))))
      by true later =
          climbs_append Rising IsRow rising_weaker after (midnight (from + 1)) 121000000 (raw_file files hours symbol Minute from)
          (flat_map (raw_file files hours symbol Minute) (filter (has_session hours) (range_with_len (from + 1) n))) (omega (arith, low)) (let h = here in omega (arith, h))
          (climbs_lower Rising IsRow rising_weaker after (midnight from) (midnight (from + 1)) (raw_file files hours symbol Minute from) low (minute_file from here)) later
      by false later =
          climbs_lower Rising IsRow rising_weaker after (midnight (from + 1)) 121000000
          (flat_map (raw_file files hours symbol Minute) (filter (has_session hours) (range_with_len (from + 1) n))) (omega (arith, low)) later

few_days : (z : ℤ) → z ≤ℤ pos (last_day - 1) → count_to z ≤ last_day
few_days (pos n) low = omega (arith, ints, low)
few_days (negsuc n) low = omega arith

-- all files of a security
pub raw_climbs : (files : Files) (hours : Entries) (symbol : List ℕ) (resolution : Resolution) (start : ℤ) (window : Window) → LieInDays hours → IsWindow window
    → Climbs Rising IsRow 0 121000000 (equity_raw files hours symbol resolution (files_of (Equity symbol resolution) start window hours))
unfolding equity_raw
raw_climbs files hours symbol Minute start window every is_window =
    let few = few_days window.last.0 is_window.last.1 in
    minute_files files hours symbol (count_to window.last.0 - feed_day start) (feed_day start) 0 (omega arith) (λ day low high. omega (arith, low, high, few))
raw_climbs files hours symbol Hour start window every is_window =
    subst (Climbs Rising IsRow 0 121000000) (sym (append-nil (raw_file files hours symbol Hour 0))) (hour_file files hours symbol)
raw_climbs files hours symbol Daily start window every is_window =
    subst (Climbs Rising IsRow 0 121000000) (sym (append-nil (raw_file files hours symbol Daily 0))) (daily_file files hours symbol every)
