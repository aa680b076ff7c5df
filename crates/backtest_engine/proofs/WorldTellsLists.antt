-- What is read off a list whose rows are sound.
use Rattle.std.proofs.Common.{◌≡◌, ℕ, Bool, true, false, ℤ, pos, ◌<ℤ◌, List, [], ◌∷◌, ◌++◌, Option, Some, None, refl, sym, ap, ◌∙◌, arith}
use Rattle.std.specs.Prelude.{◌&&◌, ◌==◌, int_lt, int_le, nat_le, if◌then◌else◌, unsigned_abs, filter_map}
use Rattle.std.specs.List.{AllByRecursion as Each, filter, list_all, cons_option}
use Rattle.std.specs.Ordering.{int_eq}
use Rattle.std.proofs.lemmas.Bool.{and_from, true≢false}
use Rattle.std.proofs.lemmas.Bool.Decides.{nat_tests}
use Rattle.std.proofs.lemmas.Int.{ints}
use Rattle.lean_fixed.specs.declared.resolution.Resolution.{Resolution}
use Rattle.lean_items.specs.declared.bad.Bad.{Bad as BadLine}
use Rattle.lean_items.specs.declared.bar.Bar.{Bar as BarValue}
use Rattle.lean_items.specs.declared.coarse_row.CoarseRow.{CoarseRow}
use Rattle.lean_items.specs.declared.feed_key.FeedKind.TheVariants as kind
use Rattle.lean_items.specs.declared.item.Item.{Item}
use Rattle.lean_items.specs.declared.item.Item.TheVariants.{Bar, Coarse, Bad, Faulted, End}
use Rattle.lean_items.specs.Fits.{is_bar_in_range, is_row_in_range}
use Rattle.lean_items.specs.Given.{IsRow}
use Rattle.clock_feeds.specs.Bars.{end_of}
use Rattle.clock_feeds.specs.Feeds.{last_item}
use Rattle.clock_feeds.specs.Lists.{IsInFile, IsOfKind, is_by, stop_in, blocked_in}
use Rattle.clock_feeds.specs.Lists as feeds
use Rattle.frontier_sync.specs.Heads.{fits_first}
use Rattle.frontier_sync.specs.Rising.{EndsOnce}
use Rattle.frontier_sync.specs.Slices.{ends_at}
use Rattle.frontier_sync.specs.Stands.{is_coarse}
use Rattle.backtest_core.specs.Inside.{bar_in, row_in}
use Rattle.backtest_core.specs.Slices.{IsSoundRow}
use Rattle.backtest_engine.specs.Lists.{due}
use Rattle.backtest_engine.specs.Stands.{HasFile}
use Rattle.backtest_engine.specs.Tells.{bars_ending, rows_ending}

-- a row ends at a moment that is counted from 1970 on, and past the start of its feed, and its numbers are in their ranges
abbrev pub IsGood : ℤ → Item → Type 0
IsGood start (Bar bar) = (bar.end.0 ≡ pos (end_of bar)) × (start <ℤ bar.end.0) × (is_bar_in_range bar ≡ true)
IsGood start (Coarse at row) = (at.0 ≡ pos (unsigned_abs at.0)) × (start <ℤ at.0) × (is_row_in_range at.0 row ≡ true)
IsGood start (Bad bad) = Unit {0}
IsGood start Faulted = Unit {0}
IsGood start End = Unit {0}

pub last-good : (start : ℤ) (stop : Option BadLine) → IsGood start (last_item stop)
last-good start None = tt
last-good start (Some bad) = tt

less : (a b : ℤ) → a <ℤ b → int_lt a b ≡ true
less a b low = grind (arith, ints)

pub good-first : (start : ℤ) (item : Item) → IsGood start item → fits_first start item ≡ true
good-first start (Bar bar) good = and_from (int_lt start bar.end.0) (is_bar_in_range bar) (less start bar.end.0 good.1) good.2
good-first start (Coarse at row) good = and_from (int_lt start at.0) (is_row_in_range at.0 row) (less start at.0 good.1) good.2
good-first start (Bad bad) good = refl
good-first start Faulted good = refl
good-first start End good = refl

pub good-row : (start : ℤ) (item : Item) → IsGood start item → IsSoundRow item
good-row start (Bar bar) good = tt
good-row start (Coarse at row) good = good.2
good-row start (Bad bad) good = tt
good-row start Faulted good = tt
good-row start End good = tt

pub has-file : (item : Item) → IsInFile item → HasFile item
has-file (Bar bar) is = tt
has-file (Coarse at row) is = tt
has-file (Bad bad) is = is
has-file Faulted is = tt
has-file End is = tt

pub no-coarse : (symbol : List ℕ) (resolution : Resolution) (item : Item) → IsOfKind (kind.Equity symbol resolution) item → is_coarse item ≡ false
no-coarse symbol resolution (Bar bar) is = refl
no-coarse symbol resolution (Coarse at row) is = absurd is
no-coarse symbol resolution (Bad bad) is = refl
no-coarse symbol resolution Faulted is = refl
no-coarse symbol resolution End is = refl

-- ---- what ends at a moment

same-moment : (z : ℤ) (n t : ℕ) → z ≡ pos n → int_eq z (pos t) ≡ (n == t)
same-moment z n t is = ap (λ x. int_eq x (pos t)) is ∙ plain
  where
    plain : int_eq (pos n) (pos t) ≡ (n == t)
    plain = grind (arith, ints, nat_tests)

by-moment : (z : ℤ) (n t : ℕ) → z ≡ pos n → int_le z (pos t) ≡ nat_le n t
by-moment z n t is = ap (λ x. int_le x (pos t)) is

bar-step : (b : Bool) (bar : BarValue) (xs : List Item) (ys : List BarValue) → filter_map bar_in xs ≡ ys
    → filter_map bar_in (if b then Bar bar ∷ xs else xs) ≡ cons_option (if b then Some bar else None) ys
bar-step true bar xs ys same = ap (λ zs. bar ∷ zs) same
bar-step false bar xs ys same = same

no-bar-step : (b : Bool) (item : Item) (xs : List Item) (ys : List BarValue) → bar_in item ≡ None → filter_map bar_in xs ≡ ys
    → filter_map bar_in (if b then item ∷ xs else xs) ≡ ys
no-bar-step true item xs ys none same = ap (λ o. cons_option o (filter_map bar_in xs)) none ∙ same
no-bar-step false item xs ys none same = same

pub bars-same : (start : ℤ) (t : ℕ) (items : List Item) → Each (IsGood start) items → bars_ending t items ≡ feeds.bars_ending t items
bars-same start t [] good = refl
bars-same start t (Bar bar ∷ items) good =
    let rest = filter (ends_at (pos t)) items in
    ap (λ b. filter_map bar_in (if b then Bar bar ∷ rest else rest)) (same-moment bar.end.0 (end_of bar) t good.0.0)
    ∙ bar-step (end_of bar == t) bar rest (feeds.bars_ending t items) (bars-same start t items good.1)
bars-same start t (Coarse at row ∷ items) good =
    no-bar-step (int_eq at.0 (pos t)) (Coarse at row) (filter (ends_at (pos t)) items) (feeds.bars_ending t items) refl (bars-same start t items good.1)
bars-same start t (Bad bad ∷ items) good = bars-same start t items good.1
bars-same start t (Faulted ∷ items) good = bars-same start t items good.1
bars-same start t (End ∷ items) good = bars-same start t items good.1

row-step : (b : Bool) (item : Item) (row : CoarseRow) (xs : List Item) (ys : List CoarseRow) → row_in item ≡ Some row → filter_map row_in xs ≡ ys
    → filter_map row_in (if b then item ∷ xs else xs) ≡ cons_option (if b then Some row else None) ys
row-step true item row xs ys is same = ap (λ o. cons_option o (filter_map row_in xs)) is ∙ ap (λ zs. row ∷ zs) same
row-step false item row xs ys is same = same

no-row-step : (b : Bool) (item : Item) (xs : List Item) (ys : List CoarseRow) → row_in item ≡ None → filter_map row_in xs ≡ ys
    → filter_map row_in (if b then item ∷ xs else xs) ≡ ys
no-row-step true item xs ys none same = ap (λ o. cons_option o (filter_map row_in xs)) none ∙ same
no-row-step false item xs ys none same = same

pub rows-same : (start : ℤ) (t : ℕ) (items : List Item) → Each (IsGood start) items → rows_ending t items ≡ feeds.rows_ending t items
rows-same start t [] good = refl
rows-same start t (Bar bar ∷ items) good =
    no-row-step (int_eq bar.end.0 (pos t)) (Bar bar) (filter (ends_at (pos t)) items) (feeds.rows_ending t items) refl (rows-same start t items good.1)
rows-same start t (Coarse at row ∷ items) good =
    let rest = filter (ends_at (pos t)) items in
    ap (λ b. filter_map row_in (if b then Coarse at row ∷ rest else rest)) (same-moment at.0 (unsigned_abs at.0) t good.0.0)
    ∙ row-step (unsigned_abs at.0 == t) (Coarse at row) row rest (feeds.rows_ending t items) refl (rows-same start t items good.1)
rows-same start t (Bad bad ∷ items) good = rows-same start t items good.1
rows-same start t (Faulted ∷ items) good = rows-same start t items good.1
rows-same start t (End ∷ items) good = rows-same start t items good.1

-- ---- the last item

pub whole-once : (rows : List Item) (stop : Option BadLine) → Each IsRow rows → EndsOnce (rows ++ last_item stop ∷ [])
whole-once [] None are = (λ last. refl, tt)
whole-once [] (Some bad) are = (λ last. refl, tt)
whole-once (row ∷ rows) stop are = (λ last. absurd (true≢false (sym last ∙ are.0)), whole-once rows stop are.1)

due-step : (a b c : Bool) (x stop : Option BadLine) → a ≡ b → x ≡ (if c then stop else None) → (if a then x else None) ≡ (if b && c then stop else None)
due-step a true c x stop is same = ap (λ d. if d then x else None) is ∙ same
due-step a false c x stop is same = ap (λ d. if d then x else None) is

-- a malformed line is due where its list is blocked
pub due-told : (start : ℤ) (t : ℕ) (rows : List Item) (stop : Option BadLine) → Each IsRow rows → Each (IsGood start) (rows ++ last_item stop ∷ [])
    → due (pos t) (rows ++ last_item stop ∷ []) ≡ blocked_in (rows ++ last_item stop ∷ []) t
due-told start t [] None are good = refl
due-told start t [] (Some bad) are good = refl
due-told start t (Bar bar ∷ rows) stop are good =
    let rest = rows ++ last_item stop ∷ [] in
    due-step (int_le bar.end.0 (pos t)) (nat_le (end_of bar) t) (list_all (is_by t) rest) (due (pos t) rest) (stop_in rest) (by-moment bar.end.0 (end_of bar) t good.0.0)
    (due-told start t rows stop are.1 good.1)
due-told start t (Coarse at row ∷ rows) stop are good =
    let rest = rows ++ last_item stop ∷ [] in
    due-step (int_le at.0 (pos t)) (nat_le (unsigned_abs at.0) t) (list_all (is_by t) rest) (due (pos t) rest) (stop_in rest) (by-moment at.0 (unsigned_abs at.0) t good.0.0)
    (due-told start t rows stop are.1 good.1)
due-told start t (Bad bad ∷ rows) stop are good = absurd (true≢false are.0)
due-told start t (Faulted ∷ rows) stop are good = absurd (true≢false are.0)
due-told start t (End ∷ rows) stop are good = absurd (true≢false are.0)
