-- What is left of a sheet, step by step.
use Rattle.std.proofs.Common.{◌≡◌, ℕ, ◌*◌, ◌<◌, ◌≤◌, List, [], ◌∷◌, ◌++◌, Bool, true, false, refl, sym, ap, ◌∙◌, subst, arith, pos, append_assoc}
use Rattle.std.specs.Prelude.{Option, Some, None, Result, Ok, Err, cond, ◌==◌, ◌&&◌, nat_le, filter, int_lt, ◌<ℤ◌, option_map}
use Rattle.std.specs.List.{list_all}
use Rattle.std.proofs.lemmas.Bool.Decides.{nat_tests}
use Rattle.std.proofs.lemmas.Int.{ints}
use Rattle.std.proofs.lemmas.List.Folds.{list_all-append}
use Rattle.std.proofs.lemmas.List.Elements.{filter-append}
use Rattle.lean_fixed.specs.declared.resolution.Resolution.TheVariants.{Daily}
use Rattle.lean_items.specs.declared.bad.Bad.{Bad}
use Rattle.lean_items.specs.declared.reason.Reason.{Reason}
use Rattle.lean_items.specs.declared.reason.Reason.TheVariants.{Order}
use Rattle.line_source.specs.Lines.{FileLine, TextLine, BlankLine, LongLine, ManyLine}
use Rattle.equity_csv.specs.declared.row.Row.{Row}
use Rattle.equity_csv.specs.Rows.{dated_row}
use Rattle.clock_feeds.specs.Entries.{Entry, entries, in_order, checked, row_before}
use Rattle.daily_tape.specs.Entry.{IsDaily, row_day}
use Rattle.daily_tape.specs.DailyFile.{Sheet, no_rows, with_row, put, sheet_of, daily_row, starts_after, sheet_after, file_sheet}
use Rattle.daily_tape.specs.DailyTape.{step_of, refusal, due_of}
use Rattle.daily_tape.specs.Source.{Rises, Leaves}

-- a row that starts after another stands at a later step
later_day : (b x : Row) → IsDaily b → IsDaily x → int_lt b.start.0 x.start.0 ≡ true → step_of b < step_of x
later_day b x db dx lt =
    let below : pos (1440 * row_day b) <ℤ pos (1440 * row_day x) = (let h : int_lt (pos (1440 * row_day b)) (pos (1440 * row_day x)) ≡ true = rw (db.whole_day, dx.whole_day) at lt in grind (arith, ints, h)) in
    omega (arith, ints, below)

abbrev pub IsKnown : Option Row → Type 0
IsKnown None = Unit {0}
IsKnown (Some row) = IsDaily row

abbrev pub step_behind : Option Row → ℕ
step_behind None = 0
step_behind (Some row) = step_of row

-- the rows of an entry and what is behind it rise
checked_row : (b x : Row) (line : ℕ) (later : Sheet) (t : Bool) → (t ≡ true → step_of b < step_of x) → Rises (step_of x) later.rows
    → Rises (step_of b) (put line (cond t (Ok x) (Err Order)) later).rows
checked_row b x line later true up rises = (up refl, rises)
checked_row b x line later false up rises = tt

rises-entry : (before : Option Row) (line : ℕ) (says : Result Row Reason) (more : List (Entry Row))
    → IsKnown before → ((row : Row) → says ≡ Ok row → IsDaily row)
    → ((row : Row) → IsDaily row → Rises (step_of row) (sheet_of (in_order starts_after (Some row) more)).rows)
    → Rises (step_behind before) (put line (checked starts_after before says) (sheet_of (in_order starts_after (row_before starts_after before says) more))).rows
rises-entry before line (Err reason) more known daily later = tt
rises-entry None line (Ok x) more known daily later = (omega arith, later x (daily x refl))
rises-entry (Some b) line (Ok x) more known daily later =
    checked_row b x line (sheet_of (in_order starts_after (Some x) more)) (starts_after b x)
    (later_day b x known (daily x refl)) (later x (daily x refl))

module _ (daily : (text : List ℕ) (row : Row) → dated_row Daily text ≡ Ok row → IsDaily row) where
  pub rises-lines : (before : Option Row) (lines : List (ℕ × FileLine)) → IsKnown before → Rises (step_behind before) (sheet_after before lines).rows
  rises-lines before [] known = tt
  rises-lines before ((number, BlankLine) ∷ more) known = rises-lines before more known
  rises-lines before ((number, TextLine text) ∷ more) known =
      rises-entry before number (dated_row Daily text) (entries daily_row more) known (daily text) (λ row is. rises-lines (Some row) more is)
  rises-lines before ((number, LongLine) ∷ more) known = tt
  rises-lines before ((number, ManyLine) ∷ more) known = tt

  -- the rows of a file rise
  pub rises-file : (lines : Option (List (ℕ × FileLine))) → Rises 0 (file_sheet lines).rows
  rises-file None = tt
  rises-file (Some lines) = rises-lines None lines tt

-- a test that holds of all numbers up to one holds of those up to a later one
up_to_later : (k j : ℕ) (rows : List Row) → k ≤ j → list_all (λ row. nat_le (step_of row) k) rows ≡ true → list_all (λ row. nat_le (step_of row) j) rows ≡ true
up_to_later k j [] le all = refl
up_to_later k j (row ∷ rows) le all =
    let both = split (nat_le (step_of row) k) (list_all (λ r. nat_le (step_of r) k) rows) all in
    let here : nat_le (step_of row) j ≡ true = (let low : nat_le (step_of row) k ≡ true = both.0 in grind (arith, nat_tests)) in
    rw (here, up_to_later k j rows le both.1) refl
  where
    split : (p q : Bool) → (p && q) ≡ true → (p ≡ true) × (q ≡ true)
    split true true e = (refl, refl)
    split true false e = cc
    split false q e = cc

-- rows up to a step have none at a later one
none_at : (k j : ℕ) (rows : List Row) → k < j → list_all (λ row. nat_le (step_of row) k) rows ≡ true → filter (λ row. step_of row == j) rows ≡ []
none_at k j [] lt all = refl
none_at k j (row ∷ rows) lt all =
    let both = split (nat_le (step_of row) k) (list_all (λ r. nat_le (step_of r) k) rows) all in
    let other : (step_of row == j) ≡ false = (let low : nat_le (step_of row) k ≡ true = both.0 in grind (arith, nat_tests)) in
    rw (other, none_at k j rows lt both.1) refl
  where
    split : (p q : Bool) → (p && q) ≡ true → (p ≡ true) × (q ≡ true)
    split true true e = (refl, refl)
    split true false e = cc
    split false q e = cc

-- rows that rise from a step have none at it
none_behind : (k j : ℕ) (rows : List Row) → j ≤ k → Rises k rows → filter (λ row. step_of row == j) rows ≡ []
none_behind k j [] le rises = refl
none_behind k j (row ∷ rows) le rises =
    let other : (step_of row == j) ≡ false = (let up : k < step_of row = rises.0 in grind (arith, nat_tests)) in
    rw (other, none_behind (step_of row) j rows (omega (arith, rises.0)) rises.1) refl

pub leaves-start : (sheet left : Sheet) → sheet ≡ left → Rises 0 sheet.rows → Leaves 0 sheet left
leaves-start sheet left is rises =
    subst (λ l. Leaves 0 sheet l) is (record { past = []; rows = refl; stop = refl; passed = refl; rises = rises })

module _ (k : ℕ) (sheet : Sheet) where
  pub leaves-later : (j : ℕ) (left : Sheet) → Leaves k sheet left → k ≤ j → Rises j left.rows → Leaves j sheet left
  leaves-later j left has le rises = record {
    past = has.past;
    rows = has.rows;
    stop = has.stop;
    passed = up_to_later k j has.past le has.passed;
    rises = rises;
  }

  pub leaves-row : (row : Row) (later : Sheet) → Leaves k sheet (with_row row later) → Leaves (step_of row) sheet later
  leaves-row row later has =
      let up : k < step_of row = has.rises.0 in
      let before = up_to_later k (step_of row) has.past (omega arith) has.passed in
      let here : nat_le (step_of row) (step_of row) ≡ true = grind (arith, nat_tests) in
      record {
        past = has.past ++ row ∷ [];
        rows = has.rows ∙ sym (append_assoc has.past (row ∷ []) later.rows);
        stop = has.stop;
        passed = list_all-append (λ r. nat_le (step_of r) (step_of row)) has.past (row ∷ []) ∙ rw (before, here) refl;
        rises = has.rises.1;
      }

  -- the rows at the next step
  pub row_at-next : (j : ℕ) (row : Row) (later : Sheet) → Leaves k sheet (with_row row later) → k < j → j ≤ step_of row
      → filter (λ r. step_of r == j) sheet.rows ≡ cond (step_of row == j) (row ∷ []) []
  row_at-next j row later has lt le =
      let behind = none_behind (step_of row) j later.rows le has.rises.1 in
      ap (filter (λ r. step_of r == j)) has.rows
      ∙ filter-append (λ r. step_of r == j) has.past (row ∷ later.rows)
      ∙ rw (none_at k j has.past lt has.passed, behind) refl

  pub no_row_at-next : (j : ℕ) (stop : Option Bad) → Leaves k sheet (no_rows stop) → k < j → filter (λ r. step_of r == j) sheet.rows ≡ []
  no_row_at-next j stop has lt =
      ap (filter (λ r. step_of r == j)) has.rows
      ∙ filter-append (λ r. step_of r == j) has.past []
      ∙ rw (none_at k j has.past lt has.passed) refl

  module _ (symbol : List ℕ) where
    -- a security with a row to come is not due
    pub due-row : (j : ℕ) (row : Row) (later : Sheet) → Leaves k sheet (with_row row later) → j < step_of row
        → due_of j (record { symbol = symbol; sheet = sheet }) ≡ None
    due-row j row later has lt =
        let past : nat_le (step_of row) j ≡ false = grind (arith, nat_tests) in
        let some : list_all (λ r. nat_le (step_of r) j) sheet.rows ≡ false
        = ap (list_all (λ r. nat_le (step_of r) j)) has.rows ∙ list_all-append (λ r. nat_le (step_of r) j) has.past (row ∷ later.rows) ∙ rw past (never (list_all (λ r. nat_le (step_of r) j) has.past)) in
        rw some refl
      where
        never : (p : Bool) → (p && false) ≡ false
        never true = refl
        never false = refl

    -- one without is, where it has a malformed line
    pub due-stop : (j : ℕ) (stop : Option Bad) → Leaves k sheet (no_rows stop) → k ≤ j
        → due_of j (record { symbol = symbol; sheet = sheet }) ≡ option_map (refusal symbol) stop
    due-stop j stop has le =
        let all : list_all (λ r. nat_le (step_of r) j) sheet.rows ≡ true
        = ap (list_all (λ r. nat_le (step_of r) j)) has.rows ∙ list_all-append (λ r. nat_le (step_of r) j) has.past [] ∙ rw (up_to_later k j has.past le has.passed) refl in
        rw (all, has.stop) refl
