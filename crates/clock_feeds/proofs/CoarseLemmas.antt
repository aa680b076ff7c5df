-- The entries of the coarse files: their rows end at the 00:00 behind their date, and a file has at most 20,000.
use Rattle.std.proofs.Common.{◌≡◌, ℕ, zero, suc, ◌+◌, ◌-◌, ◌*◌, ◌<◌, ◌≤◌, ℤ, pos, negsuc, ◌-ℤ◌, ◌≤ℤ◌, List, [], ◌∷◌, Bool, true, false, refl, arith, map}
use Rattle.std.specs.Prelude.{Option, Some, None, option_map, Result, Ok, Err, nat_lt, flat_map}
use Rattle.std.specs.List.{cons_option, range_with_len}
use Rattle.std.proofs.lemmas.Bool.Decides.{nat_tests}
use Rattle.std.proofs.lemmas.Int.{ints}
use Rattle.lean_fixed.specs.Calendar.{last_day}
use Rattle.lean_fixed.specs.Fields.{fields}
use Rattle.lean_fixed.specs.Moments.{midnight}
use Rattle.lean_fixed.specs.Ranges.{IsWindow}
use Rattle.lean_fixed.specs.declared.time.Window.{Window}
use Rattle.lean_io.specs.Told.{Files}
use Rattle.lean_items.specs.declared.coarse_row.CoarseRow.{CoarseRow}
use Rattle.lean_items.specs.declared.feed_key.FeedKind.TheVariants.{Coarse}
use Rattle.lean_items.specs.declared.reason.Reason.{Reason}
use Rattle.lean_items.specs.Coarse.{IsCoarse}
use Rattle.line_source.specs.Lines.{FileLine, TextLine, BlankLine, LongLine, ManyLine, lines}
use Rattle.coarse_csv.specs.Rows.{coarse_row}
use Rattle.coarse_csv.proofs.RowLemmas.{row-valid}
use Rattle.exchange_hours.specs.Entries.{Entries}
use Rattle.feed_paths.specs.Files.{from_1970, count_to, files_of}
use Rattle.feed_paths.specs.Paths.{path_of}
use Rattle.clock_feeds.specs.Entries.{Entry, said, entries}
use Rattle.clock_feeds.specs.Raw.{Raw, timed_says, raw_of, file_entries, counted, first_rows, coarse_said, coarse_text, coarse_entries, coarse_end, coarse_raw}
use Rattle.clock_feeds.proofs.CutLemmas.{OnSays, Climbs, climbs_append, good_rows, count_append}
use Rattle.clock_feeds.proofs.SearchLemmas.{none_some}

abbrev pub Standing : ℕ → ℕ → Type 0
Standing a b = a ≤ b

pub standing_weaker : (a b e : ℕ) → a ≤ b → b ≤ e → a ≤ e
standing_weaker a b e low up = omega (arith, low, up)

abbrev OnRow : Result CoarseRow Reason → Type 0
OnRow (Ok row) = IsCoarse row
OnRow (Err reason) = Unit {0}

abbrev AllValid : List (Entry CoarseRow) → Type 0
AllValid [] = Unit {0}
AllValid (entry ∷ more) = OnRow entry.says × AllValid more

-- the rows of one file all end at one moment
entries_climb : (file until after : ℕ) (es : List (Entry CoarseRow)) → AllValid es → after ≤ midnight (file + 1) → midnight (file + 1) ≤ until
    → Climbs Standing IsCoarse after until (map (raw_of file (coarse_end file)) es)
entries_climb file until after [] valid low high = tt
entries_climb file until after (entry ∷ more) valid low high = by entry.says valid.0 (entries_climb file until (midnight (file + 1)) more valid.1 (omega arith) high)
  where
    by : (says : Result CoarseRow Reason) → OnRow says
        → Climbs Standing IsCoarse (midnight (file + 1)) until (map (raw_of file (coarse_end file)) more)
        → OnSays Standing IsCoarse (λ at. Climbs Standing IsCoarse at until (map (raw_of file (coarse_end file)) more)) after until (timed_says (coarse_end file) says)
    by (Err reason) v later = tt
    by (Ok row) v later = (low, high, v, later)

text_valid : (o : Result (Option CoarseRow) Reason) (row : CoarseRow) → coarse_said o ≡ Some (Ok row) → o ≡ Ok (Some row)
text_valid (Ok None) row is = absurd (none_some is)
text_valid (Ok (Some other)) row is = cc
text_valid (Err reason) row is = absurd cc

row_valid : (text : List ℕ) (row : CoarseRow) → coarse_text text ≡ Some (Ok row) → IsCoarse row
unfolding coarse_row
row_valid text row is = row-valid (fields text) row (text_valid _ row is)

said_valid : (line : FileLine) (row : CoarseRow) → said coarse_text line ≡ Some (Ok row) → IsCoarse row
said_valid BlankLine row is = absurd (none_some is)
said_valid (TextLine text) row is = row_valid text row is
said_valid LongLine row is = absurd cc
said_valid ManyLine row is = absurd cc

line_valid : (number : ℕ) (o : Option (Result CoarseRow Reason)) (rest : List (Entry CoarseRow)) → ((row : CoarseRow) → o ≡ Some (Ok row) → IsCoarse row) → AllValid rest
    → AllValid (cons_option (option_map (λ says. record { line = number; says = says }) o) rest)
line_valid number None rest says more = more
line_valid number (Some (Ok row)) rest says more = (says row refl, more)
line_valid number (Some (Err reason)) rest says more = (tt, more)

entries_valid : (all : List (ℕ × FileLine)) → AllValid (entries coarse_text all)
entries_valid [] = tt
entries_valid (line ∷ more) = line_valid line.0 (said coarse_text line.1) (entries coarse_text more) (said_valid line.1) (entries_valid more)

abbrev pub raw_file : Files → ℕ → List (Raw CoarseRow)
raw_file files file = map (raw_of file (coarse_end file)) (file_entries coarse_entries (files (path_of Coarse file)))

file_climbs : (files : Files) (file until after : ℕ) → after ≤ midnight (file + 1) → midnight (file + 1) ≤ until → Climbs Standing IsCoarse after until (raw_file files file)
file_climbs files file until after low high = by (files (path_of Coarse file))
  where
    by : (o : Option (List ℕ)) → Climbs Standing IsCoarse after until (map (raw_of file (coarse_end file)) (file_entries coarse_entries o))
    by None = tt
    by (Some bytes) = entries_climb file until after (coarse_entries (lines bytes)) (entries_valid (first_rows 0 (lines bytes))) low high

files_climb : (files : Files) (n from after : ℕ) → after ≤ midnight (from + 1) → ((day : ℕ) → from ≤ day → day < from + n → day ≤ last_day)
    → Climbs Standing IsCoarse after 121000000 (flat_map (raw_file files) (range_with_len from n))
files_climb files zero from after low exist = tt
files_climb files (suc n) from after low exist =
    let here : from ≤ last_day = exist from (omega arith) (omega arith) in
    climbs_append Standing IsCoarse standing_weaker after (midnight (from + 1)) 121000000 (raw_file files from) (flat_map (raw_file files) (range_with_len (from + 1) n)) low (omega (arith, here))
    (file_climbs files from (midnight (from + 1)) after low (omega arith))
    (files_climb files n (from + 1) (midnight (from + 1)) (omega arith) (λ day l h. exist day (omega (arith, l)) (omega (arith, h))))

few_days : (z : ℤ) → z ≤ℤ pos (last_day - 1) → count_to (z -ℤ pos 1) ≤ last_day
few_days z low = by (z -ℤ pos 1) (omega (arith, ints, low))
  where
    by : (y : ℤ) → y ≤ℤ pos (last_day - 1) → count_to y ≤ last_day
    by (pos n) l = omega (arith, ints, l)
    by (negsuc n) l = omega arith

-- all coarse files
pub raw_climbs : (files : Files) (hours : Entries) (start : ℤ) (window : Window) → IsWindow window
    → Climbs Standing IsCoarse 0 121000000 (coarse_raw files (files_of Coarse start window hours))
unfolding coarse_raw
raw_climbs files hours start window is_window =
    let few = few_days window.last.0 is_window.last.1 in
    files_climb files (count_to (window.last.0 -ℤ pos 1) - from_1970 (window.first.0 -ℤ pos 1)) (from_1970 (window.first.0 -ℤ pos 1)) 0 (omega arith)
    (λ day low high. omega (arith, low, high, few))

-- ---- how many rows there are

entry_count : (file number : ℕ) (o : Option (Result CoarseRow Reason)) (rest : List (Entry CoarseRow))
    → good_rows (map (raw_of file (coarse_end file)) (cons_option (option_map (λ says. record { line = number; says = says }) o) rest)) ≤ good_rows (map (raw_of file (coarse_end file)) rest) + 1
entry_count file number None rest = omega arith
entry_count file number (Some (Ok row)) rest = omega arith
entry_count file number (Some (Err reason)) rest = omega arith

-- a line behind the 20,000th is malformed
many_count : (file before number : ℕ) (line : FileLine) (rest : List (ℕ × FileLine)) → nat_lt before 20_000 ≡ false
    → good_rows (map (raw_of file (coarse_end file)) (entries coarse_text (counted before (number, line) ∷ rest))) ≡ 0
many_count file before number line rest is = rw is refl

some_count : (file before number : ℕ) (line : FileLine) (rest : List (ℕ × FileLine))
    → good_rows (map (raw_of file (coarse_end file)) (entries coarse_text rest)) ≤ 20_000 - (before + 1)
    → good_rows (map (raw_of file (coarse_end file)) (entries coarse_text (counted before (number, line) ∷ rest))) ≤ 20_000 - before
some_count file before number line rest le = by (nat_lt before 20_000) refl
  where
    by : (b : Bool) → nat_lt before 20_000 ≡ b → good_rows (map (raw_of file (coarse_end file)) (entries coarse_text (counted before (number, line) ∷ rest))) ≤ 20_000 - before
    by true is =
        let low : before < 20_000 = grind (arith, nat_tests) in
        let one = entry_count file number (said coarse_text (counted before (number, line)).1) (entries coarse_text rest) in
        omega (arith, low, one, le)
    by false is = let none = many_count file before number line rest is in omega (arith, none)

lines_count : (file before : ℕ) (all : List (ℕ × FileLine)) → good_rows (map (raw_of file (coarse_end file)) (entries coarse_text (first_rows before all))) ≤ 20_000 - before
lines_count file before [] = omega arith
lines_count file before ((number, BlankLine) ∷ more) = lines_count file before more
lines_count file before ((number, TextLine text) ∷ more) = some_count file before number (TextLine text) (first_rows (before + 1) more) (lines_count file (before + 1) more)
lines_count file before ((number, LongLine) ∷ more) = some_count file before number LongLine (first_rows (before + 1) more) (lines_count file (before + 1) more)
lines_count file before ((number, ManyLine) ∷ more) = some_count file before number ManyLine (first_rows (before + 1) more) (lines_count file (before + 1) more)

file_count : (files : Files) (file : ℕ) → good_rows (raw_file files file) ≤ 20_000
file_count files file = by (files (path_of Coarse file))
  where
    by : (o : Option (List ℕ)) → good_rows (map (raw_of file (coarse_end file)) (file_entries coarse_entries o)) ≤ 20_000
    by None = omega arith
    by (Some bytes) = lines_count file 0 (lines bytes)

files_count : (files : Files) (n from : ℕ) → good_rows (flat_map (raw_file files) (range_with_len from n)) ≤ n * 20_000
files_count files zero from = omega arith
files_count files (suc n) from =
    let first = file_count files from in
    let rest = files_count files n (from + 1) in
    let both = count_append (raw_file files from) (flat_map (raw_file files) (range_with_len (from + 1) n)) in
    omega (arith, first, rest, both)

-- 20,000 for each day that there is
pub raw_count : (files : Files) (hours : Entries) (start : ℤ) (window : Window) → IsWindow window
    → good_rows (coarse_raw files (files_of Coarse start window hours)) ≤ 84_005 * 20_000
unfolding coarse_raw
raw_count files hours start window is_window =
    let few = few_days window.last.0 is_window.last.1 in
    let all = files_count files (count_to (window.last.0 -ℤ pos 1) - from_1970 (window.first.0 -ℤ pos 1)) (from_1970 (window.first.0 -ℤ pos 1)) in
    omega (arith, few, all)
