-- What lines say, from the first that is not blank on.
use Rattle.std.proofs.Common.{◌≡◌, ℕ, List, [], ◌∷◌, Bool, true, false, refl, sym, ap, ◌∙◌}
use Rattle.std.specs.Prelude.{Option, Some, None, Result, Ok, Err, cond}
use Rattle.lean_fixed.specs.declared.resolution.Resolution.TheVariants.{Daily}
use Rattle.lean_items.specs.declared.reason.Reason.{Reason}
use Rattle.lean_items.specs.declared.reason.Reason.TheVariants.{Order, Long, Many}
use Rattle.line_source.specs.Lines.{FileLine, TextLine, BlankLine, LongLine, ManyLine, past_blank}
use Rattle.equity_csv.specs.declared.row.Row.{Row as FileRow}
use Rattle.equity_csv.specs.Rows.{dated_row}
use Rattle.clock_feeds.specs.Entries.{entries, in_order, checked, row_before}
use Rattle.daily_tape.specs.DailyFile.{no_rows, put, sheet_of, bad_line, daily_row, starts_after, sheet_after}
use Rattle.daily_tape.specs.declared.head.Head.{Head}
use Rattle.daily_tape.specs.declared.head.Head.TheVariants.{Row, Bad, Faulted, End}
use Rattle.daily_tape.specs.Head.{IsSaid, still_to_come, IfKnown}

entries-past_blank : (lines : List (ℕ × FileLine)) → entries daily_row (past_blank lines) ≡ entries daily_row lines
entries-past_blank [] = refl
entries-past_blank ((number, BlankLine) ∷ more) = entries-past_blank more
entries-past_blank ((number, TextLine text) ∷ more) = refl
entries-past_blank ((number, LongLine) ∷ more) = refl
entries-past_blank ((number, ManyLine) ∷ more) = refl

-- blank lines say nothing
pub sheet-past_blank : (before : Option FileRow) (lines first : List (ℕ × FileLine)) → past_blank lines ≡ first → sheet_after before lines ≡ sheet_after before first
sheet-past_blank before lines first is =
    ap (λ es. sheet_of (in_order starts_after before es)) (sym (entries-past_blank lines) ∙ ap (entries daily_row) is)

-- a row that is in order is the row that was read
order : (t : Bool) (x row : FileRow) → cond t (Ok x) (Err Order) ≡ Ok row → x ≡ row
order true x row e = cc
order false x row e = cc

read_row : (before : Option FileRow) (says : Result FileRow Reason) (row : FileRow) → checked starts_after before says ≡ Ok row → says ≡ Ok row
read_row before (Err reason) row e = cc
read_row None (Ok x) row e = e
read_row (Some b) (Ok x) row e = ap Ok (order (starts_after b x) x row e)

-- what the text of a line says is the head of the sheet
said : (before : Option FileRow) (number : ℕ) (says : Result FileRow Reason) (more : List (ℕ × FileLine)) (head : Head)
    → IsSaid number (checked starts_after before says) head
    → IfKnown head (put number (checked starts_after before says) (sheet_of (in_order starts_after (row_before starts_after before says) (entries daily_row more))) ≡ still_to_come head more)
said before number says more (Row daily) is = rw (is, read_row before says daily.row is) refl
said before number says more (Bad bad) (is, line) = rw (is, ← line) refl
said before number says more Faulted is = tt
said before number says more End is = absurd is

pub head_of_text : (before : Option FileRow) (number : ℕ) (text : List ℕ) (lines more : List (ℕ × FileLine)) (head : Head)
    → past_blank lines ≡ (number, TextLine text) ∷ more → IsSaid number (checked starts_after before (dated_row Daily text)) head
    → IfKnown head (sheet_after before lines ≡ still_to_come head more)
head_of_text before number text lines more head first is =
    rw (sheet-past_blank before lines ((number, TextLine text) ∷ more) first) (said before number (dated_row Daily text) more head is)

pub head_of_long : (before : Option FileRow) (number : ℕ) (lines more left : List (ℕ × FileLine)) (head : Head)
    → past_blank lines ≡ (number, LongLine) ∷ more → head ≡ Bad (bad_line number Long) → IfKnown head (sheet_after before lines ≡ still_to_come head left)
head_of_long before number lines more left head first is =
    rw (is, sheet-past_blank before lines ((number, LongLine) ∷ more) first) refl

pub head_of_many : (before : Option FileRow) (number : ℕ) (lines more left : List (ℕ × FileLine)) (head : Head)
    → past_blank lines ≡ (number, ManyLine) ∷ more → head ≡ Bad (bad_line number Many) → IfKnown head (sheet_after before lines ≡ still_to_come head left)
head_of_many before number lines more left head first is =
    rw (is, sheet-past_blank before lines ((number, ManyLine) ∷ more) first) refl

pub head_of_end : (before : Option FileRow) (lines : List (ℕ × FileLine)) → past_blank lines ≡ [] → sheet_after before lines ≡ no_rows None
head_of_end before lines first = sheet-past_blank before lines [] first
