-- What a line's text gives, by what was read of it.
use Rattle.std.proofs.Common.{◌≡◌, ℕ, ◌+◌, ◌*◌, ◌/◌, ◌%◌, ◌<◌, ◌≤◌, ℤ, pos, negsuc, ◌<ℤ◌, ◌≤ℤ◌, int_lt, int_le, nat_lt, List, [], ◌∷◌, ◌++◌, filter, Bool, true, false, refl, sym, ap, ◌∙◌, subst, arith}
use Rattle.std.specs.Prelude.{Option, Some, None, Result, Ok, Err, ◌&&◌, option_map, unsigned_abs, cond}
use Rattle.std.proofs.lemmas.Bool.Decides.{nat_tests}
use Rattle.std.proofs.lemmas.Bool.{and_from}
use Rattle.std.proofs.lemmas.Int.{ints}
use Rattle.lean_fixed.specs.Moments.{midnight, day_of, last_moment}
use Rattle.lean_fixed.specs.declared.resolution.Resolution.{Resolution}
use Rattle.lean_fixed.specs.declared.resolution.Resolution.TheVariants.{Minute, Hour, Daily}
use Rattle.lean_fixed.specs.declared.time.Window.{Window}
use Rattle.lean_io.specs.Told.{Files}
use Rattle.lean_items.specs.declared.coarse_row.CoarseRow.{CoarseRow}
use Rattle.lean_items.specs.declared.feed_key.FeedKind.{FeedKind}
use Rattle.lean_items.specs.declared.feed_key.FeedKind.TheVariants.{Coarse, Equity}
use Rattle.lean_items.specs.declared.item.Item.{Item}
use Rattle.lean_items.specs.declared.item.Item.TheVariants.{Bar as BarItem, Coarse as CoarseItem, Bad, Faulted, End}
use Rattle.lean_items.specs.declared.reason.Reason.{Reason}
use Rattle.lean_items.specs.declared.reason.Reason.TheVariants.{Order, Many}
use Rattle.lean_items.specs.Fits.{fits, is_bar_in_range, is_row_in_range}
use Rattle.lean_items.specs.Coarse.{IsCoarse}
use Rattle.line_source.specs.Lines.{FileLine, TextLine}
use Rattle.equity_csv.specs.declared.row.Row.{Row}
use Rattle.equity_csv.specs.Written.{IsRow}
use Rattle.exchange_hours.specs.Entries.{Entries}
use Rattle.exchange_hours.specs.Grid.{in_session, close_of}
use Rattle.exchange_hours.specs.Sessions.{Interval, session}
use Rattle.feed_paths.specs.Files.{files_of}
use Rattle.clock_feeds.specs.Entries.{checked, row_before}
use Rattle.clock_feeds.specs.Raw.{Raw, raw_of, equity_row, equity_end, equity_raw, coarse_raw, coarse_text, coarse_end, starts_after, start_of}
use Rattle.clock_feeds.specs.Kept.{kept_bar, kept_coarse_row, bar_of}
use Rattle.clock_feeds.specs.Feeds.{coarse_item}
use Rattle.row_feed.specs.declared.course.Course.{Course}
use Rattle.row_feed.specs.Reach.{reach, reach_of}
use Rattle.row_feed.specs.Spans.{interval, session_for, end_by}
use Rattle.row_feed.specs.declared.judged.Judged.TheVariants.{Kept as KeptRow}
use Rattle.row_feed.specs.Judged.{judged, judged_bar, bar_given, coarse_given, KeptWithin}
use Rattle.row_feed.specs.Steps.{StepsTo, StepGives, bad_item, resolution_of}
use Rattle.row_feed.specs.ToCome.{given, equity_open, coarse_open, least_start, Behind, MayStart, StartsIn}
use Rattle.row_feed.specs.Course.{hours_of, numbers_left, LeavesBars, LeavesCoarse, LeavesOf, CourseLeaves, SameFile}
use Rattle.clock_feeds.proofs.CutLemmas.{bar_in_range, row_in_range}
use Rattle.row_feed.proofs.RangeLemmas.{past_last, not_before_last}
use Rattle.row_feed.proofs.GivenLemmas.{given-bad, step_bar, step_coarse}
use Rattle.row_feed.proofs.OpenLemmas.{equity-text, coarse-full, coarse-row, coarse-bad, coarse-skipped}

-- ---- the order of the rows of a file

start_at : (start : ℤ) → pos 0 ≤ℤ start → start ≡ pos (unsigned_abs start)
start_at (pos n) low = refl
start_at (negsuc n) low = absurd (omega (arith, ints))

pub starts_from : (row : Row) → IsRow row → row.start.0 ≡ pos (start_of row)
starts_from row is = start_at row.start.0 is.start.0

-- no row of a file starts before its least start
at_least : (resolution : Resolution) (file : ℕ) (row : Row) → StartsIn resolution file row → least_start resolution file ≤ start_of row
at_least Minute file row starts = (let e : start_of row / 1440 ≡ file = starts in omega (arith, e))
at_least Hour file row starts = omega arith
at_least Daily file row starts = omega arith

-- a row that starts before the least moment is behind its order
pub out_of_order : (resolution : Resolution) (file from : ℕ) (row : Row) (before : Option Row) → Behind resolution file from before → IsRow row → StartsIn resolution file row → start_of row < from
    → checked starts_after before (Ok row) ≡ Err Order
out_of_order resolution file from row None behind is starts early = absurd (let low = at_least resolution file row starts in omega (arith, low, behind, early))
out_of_order resolution file from row (Some b) behind is starts early =
    let not_after : int_lt b.start.0 row.start.0 ≡ false = rw (behind.0, starts_from row is) (let le : start_of row ≤ start_of b = omega (arith, behind.1, early) in grind (arith, nat_tests)) in
    rw not_after refl

-- and one that does not is in order
pub in_its_order : (resolution : Resolution) (file from : ℕ) (row : Row) (before : Option Row) → Behind resolution file from before → IsRow row → from ≤ start_of row
    → checked starts_after before (Ok row) ≡ Ok row
in_its_order resolution file from row None behind is late = refl
in_its_order resolution file from row (Some b) behind is late =
    let after : int_lt b.start.0 row.start.0 ≡ true = rw (behind.0, starts_from row is) (let lt : start_of b < start_of row = omega (arith, behind.1, late) in grind (arith, nat_tests)) in
    rw after refl

-- ---- the files behind the open one

later_starts : (file from : ℕ) (numbers : List ℕ) → from ≤ midnight (file + 1) → MayStart Minute from (filter (nat_lt file) numbers)
later_starts file from [] low = tt
later_starts file from (n ∷ numbers) low = by (nat_lt file n) refl (later_starts file from numbers low)
  where
    by : (b : Bool) → nat_lt file n ≡ b → MayStart Minute from (filter (nat_lt file) numbers) → MayStart Minute from (cond (nat_lt file n) (n ∷ filter (nat_lt file) numbers) (filter (nat_lt file) numbers))
    by true lt more = rw lt (let up : file < n = grind (arith, nat_tests) in (omega (arith, up, low), more))
    by false lt more = rw lt more

no_later : (file : ℕ) → filter (nat_lt file) (0 ∷ []) ≡ []
no_later file = let e : nat_lt file 0 ≡ false = grind (arith, nat_tests) in rw e refl

-- the rows of the files behind the open one may start behind each row of it
pub may_start : (kind : FeedKind) (resolution : Resolution) (start : ℤ) (window : Window) (hours : Entries) (file : ℕ) (row : Row) → resolution_of kind ≡ Some resolution → StartsIn resolution file row
    → MayStart resolution (start_of row + 1) (filter (nat_lt file) (files_of kind start window hours))
may_start Coarse resolution start window hours file row is starts = cc
may_start (Equity symbol Minute) resolution start window hours file row is starts =
    let e : Minute ≡ resolution = cc in
    let inside : StartsIn Minute file row = subst (λ r. StartsIn r file row) (sym e) starts in
    let low : start_of row + 1 ≤ midnight (file + 1) = (let day : start_of row / 1440 ≡ file = inside in omega (arith, day)) in
    subst (λ r. MayStart r (start_of row + 1) (filter (nat_lt file) (files_of (Equity symbol Minute) start window hours))) e
    (later_starts file (start_of row + 1) (files_of (Equity symbol Minute) start window hours) low)
may_start (Equity symbol Hour) resolution start window hours file row is starts = rw (no_later file) tt
may_start (Equity symbol Daily) resolution start window hours file row is starts = rw (no_later file) tt

-- ---- from a step of lists to what is left

pub steps_give : (leaves : List Item → Type 0) (old new list : List Item) (result : Option Item) → StepsTo old new result → list ≡ old → leaves new → StepGives leaves list result
steps_give leaves old new list None steps is left = subst leaves (sym (is ∙ steps)) left
steps_give leaves old new list (Some (BarItem bar)) steps is left = (new, is ∙ steps, left)
steps_give leaves old new list (Some (CoarseItem at row)) steps is left = (new, is ∙ steps, left)
steps_give leaves old new list (Some (Bad bad)) steps is left = is ∙ steps
steps_give leaves old new list (Some Faulted) steps is left = tt
steps_give leaves old new list (Some End) steps is left = is ∙ steps

-- ---- a row of bars

said_some : {A B : Type 0} (g : A → B) (o : Option A) (b : B) → option_map g o ≡ Some b → (a : A) × (o ≡ Some a) × (g a ≡ b)
said_some g None b is = cc
said_some g (Some a) b is = (a, refl, cc)

order : (t : Bool) (x row : Row) → cond t (Ok x) (Err Order) ≡ Ok row → x ≡ row
order true x row e = cc
order false x row e = cc

read_row : (before : Option Row) (says : Result Row Reason) (row : Row) → checked starts_after before says ≡ Ok row → says ≡ Ok row
read_row before (Err reason) row e = cc
read_row None (Ok x) row e = e
read_row (Some b) (Ok x) row e = ap Ok (order (starts_after b x) x row e)

session_is : (resolution : Resolution) (hours : Entries) (file : ℕ) (held : Option Interval) (row : Row) → held ≡ session hours file → StartsIn resolution file row
    → session_for resolution held (session hours (day_of (start_of row))) ≡ session hours (day_of (start_of row))
session_is Minute hours file held row holds starts = holds ∙ ap (session hours) (sym starts)
session_is Hour hours file held row holds starts = refl
session_is Daily hours file held row holds starts = refl

judged_is : (resolution : Resolution) (hours : Entries) (start : ℤ) (last : ℕ) (row : Row)
    → judged_bar start last resolution (start_of row) (session hours (day_of (start_of row))) ≡ judged start last (in_session hours (start_of row)) (equity_end hours resolution row)
judged_is Minute hours start last row = refl
judged_is Hour hours start last row = refl
judged_is Daily hours start last row = refl

-- what a step says of a row that was read
pub record IsRead (old new : Course) (resolution : Resolution) (text : List ℕ) (row : Row) (result : Option Item) : Type 0 where
  pub same : SameFile old new
  pub from : new.from ≡ start_of row + 1
  pub held : new.session ≡ old.session
  pub kind : resolution_of old.key.kind ≡ Some resolution
  pub is : IsRow row
  pub starts : StartsIn resolution old.file row
  pub said : (before : Option Row) → Behind resolution old.file old.from before → option_map (checked starts_after before) (equity_row resolution old.file text) ≡ Some (Ok row)
  pub value : result ≡ bar_given row (judged_bar old.key.start.0 (last_moment old.window) resolution (start_of row) (session_for resolution (interval old.session) (session (hours_of old) (day_of (start_of row)))))

numbers_open : (old : Course) → old.begun ≡ true → numbers_left old ≡ filter (nat_lt old.file) (files_of old.key.kind old.key.start.0 old.window (hours_of old))
numbers_open old begun = rw begun refl

numbers_same : (old new : Course) → SameFile old new → numbers_left new ≡ numbers_left old
numbers_same old new same = rw (same.feed.key, same.feed.window, same.feed.hours, same.begun, same.file) refl

pub bars_row : (f : Files) (old new : Course) (symbol : List ℕ) (resolution : Resolution) (number : ℕ) (text : List ℕ) (row : Row) (left : List (ℕ × FileLine)) (list : List Item) (result : Option Item)
    → IsRead old new resolution text row result
    → LeavesBars f old symbol resolution true ((number, TextLine text) ∷ left) list
    → StepGives (LeavesBars f new symbol resolution true left) list result
bars_row f old new symbol resolution number text row left list result read leaves =
    let before = leaves.before in
    let said = said_some (checked starts_after before) (equity_row resolution old.file text) (Ok row) (read.said before leaves.behind) in
    let is_row : said.0 ≡ Ok row = read_row before said.0 row said.2 in
    let keep = kept_bar (hours_of old) old.key.start.0 in
    let last = last_moment old.window in
    let later = equity_raw f (hours_of old) symbol resolution (numbers_left old) in
    let more = equity_open (hours_of old) resolution old.file (Some row) left ++ later in
    let entry : Raw Row = record { file = old.file; line = number; says = Ok (record { row = row; end = equity_end (hours_of old) resolution row }) } in
    let first : equity_open (hours_of old) resolution old.file before ((number, TextLine text) ∷ left) ≡ entry ∷ equity_open (hours_of old) resolution old.file (Some row) left
    = equity-text (hours_of old) resolution old.file before number text said.0 left said.1
    ∙ ap (λ s. raw_of old.file (equity_end (hours_of old) resolution) (record { line = number; says = s }) ∷ equity_open (hours_of old) resolution old.file (row_before starts_after before said.0) left) said.2
    ∙ ap (λ s. entry ∷ equity_open (hours_of old) resolution old.file (row_before starts_after before s) left) is_row in
    let is : list ≡ given keep BarItem last (entry ∷ more) = leaves.is ∙ ap (λ here. given keep BarItem last (here ++ later)) first in
    let held : session_for resolution (interval old.session) (session (hours_of old) (day_of (start_of row))) ≡ session (hours_of old) (day_of (start_of row))
    = session_is resolution (hours_of old) old.file (interval old.session) row (leaves.session refl) read.starts in
    let value : result ≡ bar_given row (judged old.key.start.0 last (in_session (hours_of old) (start_of row)) (equity_end (hours_of old) resolution row))
    = read.value ∙ ap (λ s. bar_given row (judged_bar old.key.start.0 last resolution (start_of row) s)) held ∙ ap (bar_given row) (judged_is resolution (hours_of old) old.key.start.0 last row) in
    let steps : StepsTo (given keep BarItem last (entry ∷ more)) (given keep BarItem last more) result
    = subst (StepsTo (given keep BarItem last (entry ∷ more)) (given keep BarItem last more)) (sym value)
    (step_bar (hours_of old) old.key.start.0 last old.file number row (equity_end (hours_of old) resolution row) more) in
    let may : MayStart resolution (start_of row + 1) (numbers_left old)
    = subst (MayStart resolution (start_of row + 1)) (sym (numbers_open old (leaves.begun refl))) (may_start old.key.kind resolution old.key.start.0 old.window (hours_of old) old.file row read.kind read.starts) in
    let same = numbers_same old new read.same in
    let now : LeavesBars f new symbol resolution true left (given keep BarItem last more) = record {
      before = Some row;
      behind = (starts_from row read.is, read.from);
      session = λ e. (rw (read.held, read.same.feed.hours, read.same.file) (leaves.session e));
      begun = λ e. (read.same.begun ∙ leaves.begun e);
      later = rw (same, read.from) may;
      is = rw (same, read.same.feed.key, read.same.feed.window, read.same.feed.hours, read.same.file) refl;
    } in
    steps_give (LeavesBars f new symbol resolution true left) (given keep BarItem last (entry ∷ more)) (given keep BarItem last more) list result steps is now

pub bars_bad : (f : Files) (old : Course) (symbol : List ℕ) (resolution : Resolution) (number : ℕ) (text : List ℕ) (reason : Reason) (left : List (ℕ × FileLine)) (list : List Item)
    → ((before : Option Row) → Behind resolution old.file old.from before → option_map (checked starts_after before) (equity_row resolution old.file text) ≡ Some (Err reason))
    → LeavesBars f old symbol resolution true ((number, TextLine text) ∷ left) list
    → list ≡ bad_item old.file number reason ∷ []
bars_bad f old symbol resolution number text reason left list reads leaves =
    let before = leaves.before in
    let said = said_some (checked starts_after before) (equity_row resolution old.file text) (Err reason) (reads before leaves.behind) in
    let keep = kept_bar (hours_of old) old.key.start.0 in
    let last = last_moment old.window in
    let later = equity_raw f (hours_of old) symbol resolution (numbers_left old) in
    let more = equity_open (hours_of old) resolution old.file (row_before starts_after before said.0) left in
    let first : equity_open (hours_of old) resolution old.file before ((number, TextLine text) ∷ left) ≡ record { file = old.file; line = number; says = Err reason } ∷ more
    = equity-text (hours_of old) resolution old.file before number text said.0 left said.1
    ∙ ap (λ s. raw_of old.file (equity_end (hours_of old) resolution) (record { line = number; says = s }) ∷ more) said.2 in
    leaves.is ∙ ap (λ here. given keep BarItem last (here ++ later)) first ∙ given-bad keep BarItem last old.file number reason (more ++ later)

-- ---- a coarse row

pub coarse_full : (f : Files) (old : Course) (number : ℕ) (text : List ℕ) (left : List (ℕ × FileLine)) (list : List Item) → 20000 ≤ old.count
    → LeavesCoarse f old true ((number, TextLine text) ∷ left) list → list ≡ bad_item old.file number Many ∷ []
coarse_full f old number text left list full leaves =
    let keep = kept_coarse_row old.key.start.0 in
    let last = last_moment old.window in
    let later = coarse_raw f (numbers_left old) in
    let not_few : nat_lt old.count 20000 ≡ false = grind (arith, nat_tests) in
    leaves.is ∙ ap (λ here. given keep coarse_item last (here ++ later)) (coarse-full old.file old.count number (TextLine text) ((number, TextLine text) ∷ left) left refl not_few)
    ∙ given-bad keep coarse_item last old.file number Many (coarse_open old.file (old.count + 1) left ++ later)

pub coarse_bad : (f : Files) (old : Course) (number : ℕ) (text : List ℕ) (reason : Reason) (left : List (ℕ × FileLine)) (list : List Item) → old.count < 20000 → coarse_text text ≡ Some (Err reason)
    → LeavesCoarse f old true ((number, TextLine text) ∷ left) list → list ≡ bad_item old.file number reason ∷ []
coarse_bad f old number text reason left list few said leaves =
    let keep = kept_coarse_row old.key.start.0 in
    let last = last_moment old.window in
    let later = coarse_raw f (numbers_left old) in
    let is_few : nat_lt old.count 20000 ≡ true = grind (arith, nat_tests) in
    leaves.is ∙ ap (λ here. given keep coarse_item last (here ++ later)) (coarse-bad old.file old.count number text reason left is_few said)
    ∙ given-bad keep coarse_item last old.file number reason (coarse_open old.file (old.count + 1) left ++ later)

pub coarse_skipped : (f : Files) (old new : Course) (number : ℕ) (text : List ℕ) (left : List (ℕ × FileLine)) (list : List Item) → SameFile old new → new.count ≡ old.count + 1 → old.count < 20000 → coarse_text text ≡ None
    → LeavesCoarse f old true ((number, TextLine text) ∷ left) list → LeavesCoarse f new true left list
coarse_skipped f old new number text left list same count few said leaves =
    let is_few : nat_lt old.count 20000 ≡ true = grind (arith, nat_tests) in
    record {
      is =
          leaves.is ∙ ap (λ here. given (kept_coarse_row old.key.start.0) coarse_item (last_moment old.window) (here ++ coarse_raw f (numbers_left old))) (coarse-skipped old.file old.count number text left is_few said)
          ∙ rw (numbers_same old new same, same.feed.key, same.feed.window, same.file, count) refl;
    }

pub coarse_given_row : (f : Files) (old new : Course) (number : ℕ) (text : List ℕ) (row : CoarseRow) (left : List (ℕ × FileLine)) (list : List Item) (result : Option Item) → SameFile old new → new.count ≡ old.count + 1 → old.count < 20000
    → coarse_text text ≡ Some (Ok row)
    → result ≡ coarse_given row (judged old.key.start.0 (last_moment old.window) (λ _. true) (Some (midnight (old.file + 1))))
    → LeavesCoarse f old true ((number, TextLine text) ∷ left) list → StepGives (LeavesCoarse f new true left) list result
coarse_given_row f old new number text row left list result same count few said value leaves =
    let keep = kept_coarse_row old.key.start.0 in
    let last = last_moment old.window in
    let later = coarse_raw f (numbers_left old) in
    let more = coarse_open old.file (old.count + 1) left ++ later in
    let is_few : nat_lt old.count 20000 ≡ true = grind (arith, nat_tests) in
    let entry : Raw CoarseRow = record { file = old.file; line = number; says = Ok (record { row = row; end = coarse_end old.file row }) } in
    let is : list ≡ given keep coarse_item last (entry ∷ more) = leaves.is ∙ ap (λ here. given keep coarse_item last (here ++ later)) (coarse-row old.file old.count number text row left is_few said) in
    let steps : StepsTo (given keep coarse_item last (entry ∷ more)) (given keep coarse_item last more) result
    = subst (StepsTo (given keep coarse_item last (entry ∷ more)) (given keep coarse_item last more)) (sym value)
    (step_coarse old.key.start.0 last old.file number row (midnight (old.file + 1)) more) in
    let now : LeavesCoarse f new true left (given keep coarse_item last more) = record {
      is = rw (numbers_same old new same, same.feed.key, same.feed.window, same.file, count) refl;
    } in
    steps_give (LeavesCoarse f new true left) (given keep coarse_item last (entry ∷ more)) (given keep coarse_item last more) list result steps is now

-- ---- the ends of rows

-- the bar of a row ends past all ends before it, and where the next row may start at the earliest
pub rises : (resolution : Resolution) (hours : Entries) (held : Option Interval) (file from end : ℕ) (row : Row)
    → ((day t : ℕ) → close_of hours day ≡ Some t → (midnight day < t) × (t ≤ midnight (day + 1)))
    → StartsIn resolution file row → from ≤ start_of row
    → end_by resolution (start_of row) (session_for resolution held (session hours (day_of (start_of row)))) ≡ Some end
    → (reach resolution from < end) × (end ≤ reach resolution (start_of row + 1))
rises Minute hours held file from end row lies starts late is = (let e : start_of row + 1 ≡ end = cc in (omega (arith, e, late), omega (arith, e)))
rises Hour hours held file from end row lies starts late is = (let e : start_of row + 60 ≡ end = cc in (omega (arith, e, late), omega (arith, e)))
rises Daily hours held file from end row lies starts late is =
    let lie = lies (day_of (start_of row)) end is in
    let whole : start_of row % 1440 ≡ 0 = starts in
    let low : 1440 * (start_of row / 1440) < end = lie.0 in
    let high : end ≤ 1440 * (start_of row / 1440 + 1) = lie.1 in
    (omega (arith, whole, low, late), omega (arith, whole, high))

pub reach_is : (kind : FeedKind) (resolution : Resolution) (from file : ℕ) → resolution_of kind ≡ Some resolution → reach_of kind from file ≡ reach resolution from
reach_is Coarse resolution from file is = cc
reach_is (Equity symbol r) resolution from file is = (let e : r ≡ resolution = cc in ap (λ r. reach r from) e)

last_is_small : (z : ℤ) → pos 0 ≤ℤ z → z ≤ℤ pos 84005 → 1440 * (unsigned_abs z + 1) ≤ 120968640
last_is_small (pos n) low high = omega (arith, ints)
last_is_small (negsuc n) low high = absurd (omega (arith, ints))

pub bar_fits : (kind : FeedKind) (resolution : Resolution) (hours : Entries) (held : Option Interval) (window : Window) (file from end : ℕ) (row : Row) (start at : ℤ)
    → ((day t : ℕ) → close_of hours day ≡ Some t → (midnight day < t) × (t ≤ midnight (day + 1)))
    → pos 0 ≤ℤ window.last.0 → window.last.0 ≤ℤ pos 84005
    → resolution_of kind ≡ Some resolution → IsRow row → StartsIn resolution file row → from ≤ start_of row
    → (start <ℤ at → at ≤ℤ pos (reach_of kind from file))
    → KeptWithin start (last_moment window) (end_by resolution (start_of row) (session_for resolution held (session hours (day_of (start_of row))))) (KeptRow end)
    → fits at (BarItem (bar_of row end)) ≡ true
bar_fits kind resolution hours held window file from end row start at lies low high kind_is row_is starts late so_far within =
    let up : reach_of kind from file < end = rw (reach_is kind resolution from file kind_is) (rises resolution hours held file from end row lies starts late within.0).0 in
    and_from (int_lt at (pos end)) (is_bar_in_range (bar_of row end)) (past_last start at (reach_of kind from file) end so_far within.1 up)
    (bar_in_range row end row_is (let most = last_is_small window.last.0 low high in omega (arith, most, within.2)))

pub coarse_fits : (kind : FeedKind) (window : Window) (file from end : ℕ) (row : CoarseRow) (start at : ℤ)
    → pos 0 ≤ℤ window.last.0 → window.last.0 ≤ℤ pos 84005
    → kind ≡ Coarse → IsCoarse row
    → (start <ℤ at → at ≤ℤ pos (reach_of kind from file))
    → KeptWithin start (last_moment window) (Some (midnight (file + 1))) (KeptRow end)
    → (int_le at (pos end) && is_row_in_range (pos end) row) ≡ true
coarse_fits kind window file from end row start at low high kind_is row_is so_far within =
    let same : midnight (file + 1) ≡ end = cc (within.0) in
    let reached : start <ℤ at → at ≤ℤ pos (midnight (file + 1)) = subst (λ k. start <ℤ at → at ≤ℤ pos (reach_of k from file)) kind_is so_far in
    and_from (int_le at (pos end)) (is_row_in_range (pos end) row) (not_before_last start at (midnight (file + 1)) end reached within.1 (omega (arith, same)))
    (row_in_range row end row_is (let most = last_is_small window.last.0 low high in omega (arith, most, within.2)))

-- ---- by what a feed reads

pub step_more : (P Q : List Item → Type 0) → ((list : List Item) → P list → Q list) → (list : List Item) (result : Option Item) → StepGives P list result → StepGives Q list result
step_more P Q more list None gives = more list gives
step_more P Q more list (Some (BarItem bar)) gives = (gives.0, gives.1, more gives.0 gives.2)
step_more P Q more list (Some (CoarseItem at row)) gives = (gives.0, gives.1, more gives.0 gives.2)
step_more P Q more list (Some (Bad bad)) gives = gives
step_more P Q more list (Some Faulted) gives = gives
step_more P Q more list (Some End) gives = gives

pub text_of_kind : (f : Files) (old new : Course) (kind : FeedKind) (first left : List (ℕ × FileLine)) (list : List Item) (result : Option Item)
    → old.key.kind ≡ kind → new.key ≡ old.key
    → ((list : List Item) → LeavesOf f old kind true first list → StepGives (LeavesOf f new kind true left) list result)
    → CourseLeaves f old true first list → StepGives (CourseLeaves f new true left) list result
unfolding CourseLeaves
text_of_kind f old new kind first left list result is key gives leaves =
    let same : new.key.kind ≡ kind = ap (λ key. key.kind) key ∙ is in
    step_more (LeavesOf f new kind true left) (λ l. LeavesOf f new new.key.kind true left l) (λ l h. subst (λ k. LeavesOf f new k true left l) (sym same) h) list result
    (gives list (subst (λ k. LeavesOf f old k true first list) is leaves))
