-- What the heads of securities say of the steps of their tape.
use Rattle.std.proofs.Common.{◌≡◌, ℕ, ◌+◌, ◌<◌, ◌≤◌, List, [], ◌∷◌, ◌++◌, Bool, true, false, refl, ◌∙◌, arith}
use Rattle.std.specs.Prelude.{Option, Some, None, cond, ◌==◌, map, flat_map}
use Rattle.std.specs.List.{AllZip, AllByRecursion}
use Rattle.equity_csv.specs.declared.row.Row.{Row as FileRow}
use Rattle.std.specs.Option.{option_or}
use Rattle.std.proofs.lemmas.Bool.Decides.{nat_tests}
use Rattle.lean_io.specs.Told.{Files}
use Rattle.lean_items.specs.declared.bad.Bad.{Bad as BadLine}
use Rattle.clock_steps.specs.Runs.{IsStill}
use Rattle.line_source.specs.Reader.{lines_left}
use Rattle.daily_tape.specs.declared.head.Head.{Head}
use Rattle.daily_tape.specs.declared.head.Head.TheVariants.{Row, Bad, Faulted, End}
use Rattle.daily_tape.specs.declared.source.Source.{Source}
use Rattle.daily_tape.specs.DailyFile.{no_rows, sheet_after}
use Rattle.daily_tape.specs.DailyTape.{Security, named, refusal, step_of, rows_at, due_of, due, tape_step}
use Rattle.daily_tape.specs.Head.{still_to_come}
use Rattle.daily_tape.specs.Source.{Leaves, Follows}
use Rattle.daily_tape.specs.Steps.{row_at, IsAhead, all_rows_now}
use Rattle.daily_tape.proofs.SheetLemmas.{row_at-next, no_row_at-next, due-row, due-stop}

one_row : (b : Bool) (symbol : List ℕ) (row : FileRow) → map (named symbol) (cond b (row ∷ []) []) ≡ cond b (named symbol row ∷ []) []
one_row true symbol row = refl
one_row false symbol row = refl

no_second : {A : Type 0} (o p : Option A) → o ≡ None → p ≡ None → option_or o p ≡ None
no_second o p first second = rw (first, second) refl

-- a head that stands at a step or later stands at an earlier one or later
pub weaker : (j s : ℕ) (head : Head) → IsAhead s head → j ≤ s → IsAhead j head
weaker j s (Row daily) ahead le = (let h : s ≤ step_of daily.row = ahead in omega arith)
weaker j s End ahead le = tt
weaker j s (Bad bad) ahead le = absurd ahead
weaker j s Faulted ahead le = absurd ahead

module _ {H : Type 0} (files : H → Option Files) (rest : H → List ℕ) (f : Files) (k : ℕ) where
  -- one security, by what its head is
  head_rows : (j : ℕ) (security : Security) (source : Source H) (head : Head) → source.head ≡ head
      → Follows files rest f k security source → IsAhead j head → k < j → rows_at j security ≡ row_at j source.symbol head
  head_rows j security source (Row daily) is follows ahead lt =
      let known : Leaves k security.sheet (still_to_come (Row daily) (lines_left rest source.lines)) = rw is at follows.known in
      rw (row_at-next k security.sheet j daily.row (sheet_after (Some daily.row) (lines_left rest source.lines)) known lt ahead, follows.symbol)
      (one_row (step_of daily.row == j) security.symbol daily.row)
  head_rows j security source End is follows ahead lt =
      let known : Leaves k security.sheet (no_rows None) = rw is at follows.known in
      rw (no_row_at-next k security.sheet j None known lt) refl
  head_rows j security source (Bad bad) is follows ahead lt = absurd ahead
  head_rows j security source Faulted is follows ahead lt = absurd ahead

  -- the rows of the next step are the heads that stand at it
  pub rows_of_heads : (j : ℕ) (all : List Security) (sources : List (Source H)) → AllZip (Follows files rest f k) all sources
      → AllByRecursion (λ s. IsAhead j s.head) sources → k < j → flat_map (rows_at j) all ≡ all_rows_now j sources
  rows_of_heads j [] [] zip ahead lt = refl
  rows_of_heads j [] (source ∷ sources) zip ahead lt = absurd zip
  rows_of_heads j (security ∷ all) [] zip ahead lt = absurd zip
  rows_of_heads j (security ∷ all) (source ∷ sources) zip ahead lt =
      rw (head_rows j security source source.head refl zip.0 ahead.0 lt, rows_of_heads j all sources zip.1 ahead.1 lt) refl

  no_row : (j s : ℕ) (symbol : List ℕ) (head : Head) → IsAhead s head → j < s → row_at j symbol head ≡ []
  no_row j s symbol (Row daily) ahead lt =
      let other : (step_of daily.row == j) ≡ false = (let h : s ≤ step_of daily.row = ahead in grind (arith, nat_tests)) in
      rw other refl
  no_row j s symbol End ahead lt = refl
  no_row j s symbol (Bad bad) ahead lt = absurd ahead
  no_row j s symbol Faulted ahead lt = absurd ahead

  -- no security is due before the step of its head
  head_due : (j s : ℕ) (security : Security) (source : Source H) (head : Head) → source.head ≡ head
      → Follows files rest f k security source → IsAhead s head → k ≤ j → j < s → due_of j security ≡ None
  head_due j s security source (Row daily) is follows ahead le lt =
      let known : Leaves k security.sheet (still_to_come (Row daily) (lines_left rest source.lines)) = rw is at follows.known in
      let h : s ≤ step_of daily.row = ahead in
      due-row k security.sheet security.symbol j daily.row (sheet_after (Some daily.row) (lines_left rest source.lines)) known (omega arith)
  head_due j s security source End is follows ahead le lt =
      let known : Leaves k security.sheet (no_rows None) = rw is at follows.known in
      due-stop k security.sheet security.symbol j None known le
  head_due j s security source (Bad bad) is follows ahead le lt = absurd ahead
  head_due j s security source Faulted is follows ahead le lt = absurd ahead

  pub none_due : (j s : ℕ) (all : List Security) (sources : List (Source H)) → AllZip (Follows files rest f k) all sources
      → AllByRecursion (λ source. IsAhead s source.head) sources → k ≤ j → j < s → due j all ≡ None
  none_due j s [] [] zip ahead le lt = refl
  none_due j s [] (source ∷ sources) zip ahead le lt = absurd zip
  none_due j s (security ∷ all) [] zip ahead le lt = absurd zip
  none_due j s (security ∷ all) (source ∷ sources) zip ahead le lt =
      no_second (due_of j security) (due j all) (head_due j s security source source.head refl zip.0 ahead.0 le lt) (none_due j s all sources zip.1 ahead.1 le lt)

  none_now : (j s : ℕ) (sources : List (Source H)) → AllByRecursion (λ source. IsAhead s source.head) sources → j < s → all_rows_now j sources ≡ []
  none_now j s [] ahead lt = refl
  none_now j s (source ∷ sources) ahead lt = rw (no_row j s source.symbol source.head ahead.0 lt, none_now j s sources ahead.1 lt) refl

  all_weaker : (j s : ℕ) (sources : List (Source H)) → AllByRecursion (λ source. IsAhead s source.head) sources → j ≤ s → AllByRecursion (λ source. IsAhead j source.head) sources
  all_weaker j s [] ahead le = tt
  all_weaker j s (source ∷ sources) ahead le = (weaker j s source.head ahead.0 le, all_weaker j s sources ahead.1 le)

  -- nothing happens before the step of the first head
  pub still_before : (s : ℕ) (all : List Security) (sources : List (Source H)) → AllZip (Follows files rest f k) all sources
      → AllByRecursion (λ source. IsAhead s source.head) sources → IsStill (tape_step all) tt (k + 1) s
  still_before s all sources zip ahead j low high =
      let rows : flat_map (rows_at j) all ≡ [] = rows_of_heads j all sources zip (all_weaker j s sources ahead (omega arith)) (omega arith) ∙ none_now j s sources ahead high in
      let stop : due j all ≡ None = none_due j s all sources zip ahead (omega arith) high in
      rw (rows, stop) refl

  -- the first of the securities whose head is a malformed line is due, where the heads before it are none and no failed read
  pub first_due : (all : List Security) (before after : List (Source H)) (source : Source H) (bad : BadLine)
      → AllZip (Follows files rest f k) all (before ++ source ∷ after) → AllByRecursion (λ s. IsAhead (k + 1) s.head) before
      → source.head ≡ Bad bad → due k all ≡ Some (refusal source.symbol bad)
  first_due [] [] after source bad zip ahead is = absurd zip
  first_due [] (s ∷ before) after source bad zip ahead is = absurd zip
  first_due (security ∷ all) [] after source bad zip ahead is =
      let known : Leaves k security.sheet (no_rows (Some bad)) = rw is at zip.0.known in
      rw (due-stop k security.sheet security.symbol k (Some bad) known (omega arith), zip.0.symbol) refl
  first_due (security ∷ all) (s ∷ before) after source bad zip ahead is =
      rw (head_due k (k + 1) security s s.head refl zip.0 ahead.0 (omega arith) (omega arith)) (first_due all before after source bad zip.1 ahead.1 is)
