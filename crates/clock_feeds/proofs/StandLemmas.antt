-- Where a list that rises stands at a moment: what lies before it, what ends then, and whether it is blocked.
use Rattle.std.proofs.Common.{◌≡◌, ℕ, ◌<◌, ◌≤◌, ℤ, pos, negsuc, ◌<ℤ◌, ◌≤ℤ◌, int_lt, int_le, List, [], ◌∷◌, ◌++◌, Bool, true, false, refl, ap, ◌∙◌, arith, true≢false}
use Rattle.std.specs.Prelude.{Option, Some, None, ◌==◌, ◌&&◌, nat_lt, nat_le, unsigned_abs, option_to_list}
use Rattle.std.specs.List.{All, list_all, cons_option}
use Rattle.std.proofs.lemmas.Bool.Decides.{nat_tests}
use Rattle.std.proofs.lemmas.Bool.{and_parts, and_from}
use Rattle.std.proofs.lemmas.Int.{ints}
use Rattle.std.proofs.lemmas.List.Elements.{filter_map-append, recursion_from_All}
use Rattle.std.proofs.lemmas.List.Folds.{list_all-append}
use Rattle.lean_fixed.specs.declared.time.Moment.{Moment}
use Rattle.lean_items.specs.declared.bad.Bad.{Bad}
use Rattle.lean_items.specs.declared.bar.Bar.{Bar}
use Rattle.lean_items.specs.declared.coarse_row.CoarseRow.{CoarseRow}
use Rattle.lean_items.specs.declared.item.Item.{Item}
use Rattle.lean_items.specs.declared.item.Item.TheVariants.{Bar as BarItem, Coarse as CoarseItem, Bad as BadItem, Faulted, End}
use Rattle.lean_items.specs.Fits.{is_bar_in_range, is_row_in_range, fits, end_or, Rises as ItemsRise}
use Rattle.lean_items.specs.Given.{IsRow}
use Rattle.clock_feeds.specs.Bars.{end_of}
use Rattle.clock_feeds.specs.Feeds.{last_item}
use Rattle.clock_feeds.specs.Lists.{bar_ending, bars_ending, is_by, is_before, stop_in, blocked_in}
use Rattle.clock_feeds.proofs.SearchLemmas.{Each}

-- an item ends no earlier than what it may come behind
up_to : (z : ℤ) (item : Item) → fits z item ≡ true → z ≤ℤ end_or z item
up_to z (BarItem bar) h = let up = (and_parts (int_lt z bar.end.0) (is_bar_in_range bar) h).0 in grind (arith, ints)
up_to z (CoarseItem at row) h = let up = (and_parts (int_le z at.0) (is_row_in_range at.0 row) h).0 in grind (arith, ints)
up_to z (BadItem bad) h = omega (arith, ints)
up_to z Faulted h = omega (arith, ints)
up_to z End h = omega (arith, ints)

bar_above : (z : ℤ) (bar : Bar) → fits z (BarItem bar) ≡ true → z <ℤ bar.end.0
bar_above z bar h = let up = (and_parts (int_lt z bar.end.0) (is_bar_in_range bar) h).0 in grind (arith, ints)

-- what stands behind some items rises past a moment that is no earlier
rises_behind : (z : ℤ) (front items : List Item) → ItemsRise z (front ++ items) → (w : ℤ) × (z ≤ℤ w) × ItemsRise w items
rises_behind z [] items rises = (z, omega (arith, ints), rises)
rises_behind z (item ∷ front) items rises =
    let up = up_to z item rises.0 in
    let later = rises_behind (end_or z item) front items rises.1 in
    let more = later.1 in
    (later.0, omega (arith, ints, up, more), later.2)

-- no bar of items that rise past a moment ends then
none_from : (z : ℤ) (t : ℕ) (items : List Item) → ItemsRise z items → pos t ≤ℤ z → bars_ending t items ≡ []
none_from z t [] rises low = refl
none_from z t (BarItem bar ∷ items) rises low =
    let up = bar_above z bar rises.0 in
    let past : t < end_of bar = omega (arith, ints, up, low) in
    let other : (end_of bar == t) ≡ false = grind (arith, nat_tests) in
    rw other (none_from bar.end.0 t items rises.1 (omega (arith, ints, up, low)))
none_from z t (CoarseItem at row ∷ items) rises low =
    let up = up_to z (CoarseItem at row) rises.0 in
    none_from at.0 t items rises.1 (omega (arith, ints, up, low))
none_from z t (BadItem bad ∷ items) rises low = none_from z t items rises.1 low
none_from z t (Faulted ∷ items) rises low = none_from z t items rises.1 low
none_from z t (End ∷ items) rises low = none_from z t items rises.1 low

front_past : (t : ℕ) (front : List Item) → list_all (is_before t) front ≡ true → bars_ending t front ≡ []
front_past t [] all = refl
front_past t (BarItem bar ∷ front) all =
    let parts = and_parts (is_before t (BarItem bar)) (list_all (is_before t) front) all in
    let other : (end_of bar == t) ≡ false = (let h : nat_lt (end_of bar) t ≡ true = parts.0 in grind (arith, nat_tests)) in
    rw other (front_past t front parts.1)
front_past t (CoarseItem at row ∷ front) all = front_past t front all
front_past t (BadItem bad ∷ front) all = front_past t front all
front_past t (Faulted ∷ front) all = front_past t front all
front_past t (End ∷ front) all = front_past t front all

-- the bars before another end before it
pub past : (z : ℤ) (front rest : List Item) (bar : Bar) → pos 0 ≤ℤ z → ItemsRise z (front ++ BarItem bar ∷ rest) → list_all (is_before (end_of bar)) front ≡ true
past z [] rest bar low rises = refl
past z (BarItem first ∷ front) rest bar low rises =
    let up = bar_above z first rises.0 in
    let later = rises_behind first.end.0 front (BarItem bar ∷ rest) rises.1 in
    let more = later.1 in
    let over = bar_above later.0 bar later.2.0 in
    let earlier : end_of first < end_of bar = omega (arith, ints, low, up, more, over) in
    and_from (nat_lt (end_of first) (end_of bar)) (list_all (is_before (end_of bar)) front) (grind (arith, nat_tests))
    (past first.end.0 front rest bar (omega (arith, ints, low, up)) rises.1)
past z (CoarseItem at row ∷ front) rest bar low rises = let up = up_to z (CoarseItem at row) rises.0 in past at.0 front rest bar (omega (arith, ints, low, up)) rises.1
past z (BadItem bad ∷ front) rest bar low rises = past z front rest bar low rises.1
past z (Faulted ∷ front) rest bar low rises = past z front rest bar low rises.1
past z (End ∷ front) rest bar low rises = past z front rest bar low rises.1

-- of a list only the next bar may end now
pub next_only : (z : ℤ) (t : ℕ) (front rest : List Item) (bar : Bar) → pos 0 ≤ℤ z → ItemsRise z (front ++ BarItem bar ∷ rest) → list_all (is_before t) front ≡ true
    → t ≤ end_of bar → bars_ending t (front ++ BarItem bar ∷ rest) ≡ option_to_list (bar_ending t (BarItem bar))
next_only z t front rest bar low rises all since =
    let behind = rises_behind z front (BarItem bar ∷ rest) rises in
    let start = behind.1 in
    let up = bar_above behind.0 bar behind.2.0 in
    let nothing : bars_ending t rest ≡ [] = none_from bar.end.0 t rest behind.2.1 (omega (arith, ints, low, start, up, since)) in
    filter_map-append (bar_ending t) front (BarItem bar ∷ rest) ∙ ap (λ xs. xs ++ bars_ending t (BarItem bar ∷ rest)) (front_past t front all)
    ∙ here (bar_ending t (BarItem bar)) nothing
  where
    here : (o : Option Bar) → bars_ending t rest ≡ [] → cons_option o (bars_ending t rest) ≡ option_to_list o
    here None none = none
    here (Some b) none = ap (λ xs. b ∷ xs) none

pub last_only : (t : ℕ) (front : List Item) (stop : Option Bad) → list_all (is_before t) front ≡ true → bars_ending t (front ++ last_item stop ∷ []) ≡ []
last_only t front stop all = filter_map-append (bar_ending t) front (last_item stop ∷ []) ∙ ap (λ xs. xs ++ bars_ending t (last_item stop ∷ [])) (front_past t front all) ∙ alone stop
  where
    alone : (o : Option Bad) → bars_ending t (last_item o ∷ []) ≡ []
    alone None = refl
    alone (Some bad) = refl

no_and : (a b : Bool) → b ≡ false → (a && b) ≡ false
no_and true b is = is
no_and false b is = refl

-- while a bar is left that ends later, a list is not blocked
pub not_blocked : (t : ℕ) (front rest : List Item) (bar : Bar) → t < end_of bar → blocked_in (front ++ BarItem bar ∷ rest) t ≡ None
not_blocked t front rest bar later =
    let here : nat_le (end_of bar) t ≡ false = grind (arith, nat_tests) in
    let behind : list_all (is_by t) (BarItem bar ∷ rest) ≡ false = rw here refl in
    let whole : list_all (is_by t) (front ++ BarItem bar ∷ rest) ≡ false =
    list_all-append (is_by t) front (BarItem bar ∷ rest) ∙ no_and (list_all (is_by t) front) (list_all (is_by t) (BarItem bar ∷ rest)) behind in
    rw whole refl

past_then : (z : ℤ) (t : ℕ) → pos t <ℤ z → nat_le (unsigned_abs z) t ≡ false
past_then (pos n) t later = (let past : t < n = omega (arith, ints) in grind (arith, nat_tests))
past_then (negsuc n) t later = absurd (omega (arith, ints))

-- nor while a coarse row is
pub not_known : (t : ℕ) (front rest : List Item) (at : Moment) (row : CoarseRow) → pos t <ℤ at.0 → blocked_in (front ++ CoarseItem at row ∷ rest) t ≡ None
not_known t front rest at row later =
    let behind : list_all (is_by t) (CoarseItem at row ∷ rest) ≡ false = rw (past_then at.0 t later) refl in
    let whole : list_all (is_by t) (front ++ CoarseItem at row ∷ rest) ≡ false =
    list_all-append (is_by t) front (CoarseItem at row ∷ rest) ∙ no_and (list_all (is_by t) front) (list_all (is_by t) (CoarseItem at row ∷ rest)) behind in
    rw whole refl

stop_behind : (front : List Item) (stop : Option Bad) → Each IsRow front → stop_in (front ++ last_item stop ∷ []) ≡ stop
stop_behind [] None are = refl
stop_behind [] (Some bad) are = refl
stop_behind (BarItem bar ∷ front) stop are = stop_behind front stop are.1
stop_behind (CoarseItem at row ∷ front) stop are = stop_behind front stop are.1
stop_behind (BadItem bad ∷ front) stop are = absurd (true≢false are.0)
stop_behind (Faulted ∷ front) stop are = stop_behind front stop are.1
stop_behind (End ∷ front) stop are = stop_behind front stop are.1

last_by : (t : ℕ) (stop : Option Bad) → list_all (is_by t) (last_item stop ∷ []) ≡ true
last_by t None = refl
last_by t (Some bad) = refl

-- once all bars have ended it is blocked by its malformed line
pub blocked_last : (t : ℕ) (front : List Item) (stop : Option Bad) → All IsRow front → list_all (is_by t) front ≡ true → blocked_in (front ++ last_item stop ∷ []) t ≡ stop
blocked_last t front stop are all =
    let whole : list_all (is_by t) (front ++ last_item stop ∷ []) ≡ true =
    list_all-append (is_by t) front (last_item stop ∷ []) ∙ and_from (list_all (is_by t) front) (list_all (is_by t) (last_item stop ∷ [])) all (last_by t stop) in
    rw whole (stop_behind front stop (recursion_from_All IsRow front are))
