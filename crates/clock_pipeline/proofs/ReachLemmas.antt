-- A taken list that reaches a moment has all that the list of its feed has up to then.
use Rattle.std.proofs.Common.{◌≡◌, ℕ, ◌≤◌, ℤ, pos, ◌<ℤ◌, ◌≤ℤ◌, Bool, true, false, List, [], ◌∷◌, ◌++◌, refl, ap, sym, subst, ◌∙◌, arith, inl, inr, append-nil, append_assoc}
use Rattle.std.specs.Prelude.{◌⊎◌, ◌&&◌, ◌||◌, int_lt, int_le, ◌==◌, unsigned_abs, if◌then◌else◌, Option, Some, None}
use Rattle.std.specs.List.{list_any, filter_map, cons_option, AllByRecursion as Each}
use Rattle.std.proofs.lemmas.Bool.Decides.{nat_tests}
use Rattle.std.proofs.lemmas.Int.{ints}
use Rattle.std.proofs.lemmas.List.Elements.{recursion_from_All, All-from_recursion}
use Rattle.lean_items.specs.declared.bar.Bar.{Bar}
use Rattle.lean_items.specs.declared.coarse_row.CoarseRow.{CoarseRow}
use Rattle.lean_items.specs.declared.feed_key.FeedKind.{FeedKind}
use Rattle.lean_items.specs.declared.feed_key.FeedKind.TheVariants.{Coarse as CoarseFiles, Equity}
use Rattle.lean_items.specs.declared.item.Item.{Item}
use Rattle.lean_items.specs.declared.item.Item.TheVariants.{Bar as BarItem, Coarse as CoarseItem, Bad as BadItem, Faulted, End}
use Rattle.lean_items.specs.Fits.{Rises, is_bar_in_range, is_row_in_range}
use Rattle.lean_items.specs.Given.{IsRow, is_last}
use Rattle.lean_items.specs.Taken.{Follows}
use Rattle.clock_steps.specs.Runs.{IsFrontOf}
use Rattle.clock_feeds.specs.Bars.{end_of}
use Rattle.clock_feeds.specs.Feeds.{last_item}
use Rattle.clock_feeds.specs.Lists.{IsOfKind, IsWhole, bar_ending, bars_ending, row_ending, rows_ending}
use Rattle.clock_pipeline.specs.Lanes.{next_of}
use Rattle.clock_pipeline.specs.Reached.{is_past, fails_past, reaches}
use Rattle.clock_pipeline.proofs.LaneLemmas.{front-next, front-last}

-- ---- lists that follow a list

none-ended : (items : List Item) → list_any is_last items ≡ false → Each IsRow items
none-ended [] none = tt
none-ended (item ∷ items) none = by (is_last item) refl (none-ended items) none
  where
    by : (b : Bool) → is_last item ≡ b → (list_any is_last items ≡ false → Each IsRow items) → (b || list_any is_last items) ≡ false
        → (is_last item ≡ false) × Each IsRow items
    by true is later none = absurd (let wrong : true ≡ false = none in cc)
    by false is later none = (is, later none)

ended-there : (xs : List Item) → list_any is_last (xs ++ Faulted ∷ []) ≡ true
ended-there [] = refl
ended-there (x ∷ xs) = by (is_last x) (ended-there xs)
  where
    by : (b : Bool) → list_any is_last (xs ++ Faulted ∷ []) ≡ true → (b || list_any is_last (xs ++ Faulted ∷ [])) ≡ true
    by true h = refl
    by false h = h

pub follows-none : (list : List Item) → Follows list []
follows-none list = inl (list, refl)

-- a front of what follows it does
pub follows-front : (list taken sent : List Item) → Follows list sent → IsFrontOf taken sent → Follows list taken
follows-front list taken sent (inl all) front =
    inl (front.rest ++ all.0, all.1 ∙ ap (λ l. l ++ all.0) front.is ∙ append_assoc taken front.rest all.0)
follows-front list taken sent (inr (rows, rest, is, whole, are)) front =
    elim (front-last taken front.rest rows Faulted (sym is ∙ front.is)) [
      | inl same ↦ inr (rows, rest, same, whole, are)
      | inr part ↦ inl (part.rest ++ rest, whole ∙ ap (λ l. l ++ rest) part.is ∙ append_assoc taken part.rest rest)
    ]

-- and so does what follows it with one more item, or with a failed read
pub follows-next : (list sent : List Item) → Follows list sent → list_any is_last sent ≡ false → Follows list (sent ++ next_of sent list)
follows-next list sent (inl all) opened = let next = front-next (record { rest = all.0; is = all.1 }) in inl (next.rest, next.is)
follows-next list sent (inr (rows, rest, is, whole, are)) opened =
    absurd (let wrong : true ≡ false = sym (ended-there rows) ∙ ap (list_any is_last) (sym is) ∙ opened in cc)

pub follows-failed : (list sent : List Item) → Follows list sent → list_any is_last sent ≡ false → Follows list (sent ++ Faulted ∷ [])
follows-failed list sent (inl all) opened = inr (sent, all.0, refl, all.1, All-from_recursion IsRow sent (none-ended sent opened))
follows-failed list sent (inr (rows, rest, is, whole, are)) opened =
    absurd (let wrong : true ≡ false = sym (ended-there rows) ∙ ap (list_any is_last) (sym is) ∙ opened in cc)

-- ---- what stands behind an item that ends past a moment

-- nothing stands behind a malformed line, a failed read or the end
abbrev Closes : List Item → Type 0
Closes [] = Unit {0}
Closes (item ∷ items) = (is_last item ≡ true → items ≡ []) × Closes items

closes-whole : (rows : List Item) (item : Item) → Each IsRow rows → Closes (rows ++ item ∷ [])
closes-whole [] item are = ((λ l. refl), tt)
closes-whole (row ∷ rows) item are = ((λ l. absurd (let wrong : true ≡ false = sym l ∙ are.0 in cc)), closes-whole rows item are.1)

pub closes-list : (list : List Item) → IsWhole list → Closes list
closes-list list whole = subst Closes (sym whole.is) (closes-whole whole.rows (last_item whole.stop) (recursion_from_All IsRow whole.rows whole.are_rows))

-- each row ends past a moment
abbrev IsPast : ℕ → Item → Type 0
IsPast t (BarItem bar) = pos t <ℤ bar.end.0
IsPast t (CoarseItem at row) = pos t <ℤ at.0
IsPast t (BadItem bad) = Unit {0}
IsPast t Faulted = Unit {0}
IsPast t End = Unit {0}

and-first : (a b : Bool) → (a && b) ≡ true → a ≡ true
and-first true b both = refl
and-first false b both = both

le-trans : (t : ℕ) (z w : ℤ) → pos t <ℤ z → z ≤ℤ w → pos t <ℤ w
le-trans t z w low high = omega (arith, ints, low, high)

lt-trans : (t : ℕ) (z w : ℤ) → pos t ≤ℤ z → z <ℤ w → pos t <ℤ w
lt-trans t z w low high = omega (arith, ints, low, high)

to-le : (t : ℕ) (z : ℤ) → pos t <ℤ z → pos t ≤ℤ z
to-le t z low = omega (arith, ints, low)

lt-of : (z w : ℤ) → int_lt z w ≡ true → z <ℤ w
lt-of z w passes = grind (arith, ints)

le-of : (z w : ℤ) → int_le z w ≡ true → z ≤ℤ w
le-of z w passes = grind (arith, ints)

-- items that rise past a moment end past it
past-rises : (t : ℕ) (z : ℤ) (items : List Item) → pos t <ℤ z → Rises z items → Each (IsPast t) items
past-rises t z [] low rises = tt
past-rises t z (BarItem bar ∷ items) low rises =
    let up : z <ℤ bar.end.0 = lt-of z bar.end.0 (and-first (int_lt z bar.end.0) (is_bar_in_range bar) rises.0) in
    (lt-trans t z bar.end.0 (to-le t z low) up, past-rises t bar.end.0 items (lt-trans t z bar.end.0 (to-le t z low) up) rises.1)
past-rises t z (CoarseItem at row ∷ items) low rises =
    let up : z ≤ℤ at.0 = le-of z at.0 (and-first (int_le z at.0) (is_row_in_range at.0 row) rises.0) in
    (le-trans t z at.0 low up, past-rises t at.0 items (le-trans t z at.0 low up) rises.1)
past-rises t z (BadItem bad ∷ items) low rises = (tt, past-rises t z items low rises.1)
past-rises t z (Faulted ∷ items) low rises = (tt, past-rises t z items low rises.1)
past-rises t z (End ∷ items) low rises = (tt, past-rises t z items low rises.1)

-- bars rise past the moment itself
past-bars : (t : ℕ) (z : ℤ) (symbol : List ℕ) (resolution : _) (items : List Item) → pos t ≤ℤ z → Rises z items → Each (IsOfKind (Equity symbol resolution)) items → Each (IsPast t) items
past-bars t z symbol resolution [] low rises are = tt
past-bars t z symbol resolution (BarItem bar ∷ items) low rises are =
    let up : z <ℤ bar.end.0 = lt-of z bar.end.0 (and-first (int_lt z bar.end.0) (is_bar_in_range bar) rises.0) in
    (lt-trans t z bar.end.0 low up, past-rises t bar.end.0 items (lt-trans t z bar.end.0 low up) rises.1)
past-bars t z symbol resolution (CoarseItem at row ∷ items) low rises are = absurd are.0
past-bars t z symbol resolution (BadItem bad ∷ items) low rises are = (tt, past-bars t z symbol resolution items low rises.1 are.1)
past-bars t z symbol resolution (Faulted ∷ items) low rises are = (tt, past-bars t z symbol resolution items low rises.1 are.1)
past-bars t z symbol resolution (End ∷ items) low rises are = (tt, past-bars t z symbol resolution items low rises.1 are.1)

each-behind : (P : Item → Type 0) (xs ys : List Item) → Each P (xs ++ ys) → Each P ys
each-behind P [] ys each = each
each-behind P (x ∷ xs) ys each = each-behind P xs ys each.1

nothing-behind : (xs ys : List Item) → xs ++ ys ≡ [] → ys ≡ []
nothing-behind [] ys is = is
nothing-behind (x ∷ xs) ys is = cc

or-split : (a b : Bool) → (a || b) ≡ true → (a ≡ true) ⊎ (b ≡ true)
or-split true b is = inl refl
or-split false b is = inr is

at-last : (t : ℕ) (xs rest : List Item) → xs ++ rest ≡ [] → Each (IsPast t) rest
at-last t xs rest none = subst (Each (IsPast t)) (sym (nothing-behind xs rest none)) tt

-- where one of the first items ends past a moment, all the others do
past-rest : (t : ℕ) (z : ℤ) (xs rest : List Item) → Rises z (xs ++ rest) → Closes (xs ++ rest) → list_any (is_past t) xs ≡ true → Each (IsPast t) rest
past-rest t z [] rest rises closes some = absurd (let wrong : false ≡ true = some in cc)
past-rest t z (BarItem bar ∷ xs) rest rises closes some =
    elim (or-split (int_lt (pos t) bar.end.0) (list_any (is_past t) xs) some) [
      | inl here ↦ each-behind (IsPast t) xs rest (past-rises t bar.end.0 (xs ++ rest) (lt-of (pos t) bar.end.0 here) rises.1)
      | inr later ↦ past-rest t bar.end.0 xs rest rises.1 closes.1 later
    ]
past-rest t z (CoarseItem at row ∷ xs) rest rises closes some =
    elim (or-split (int_lt (pos t) at.0) (list_any (is_past t) xs) some) [
      | inl here ↦ each-behind (IsPast t) xs rest (past-rises t at.0 (xs ++ rest) (lt-of (pos t) at.0 here) rises.1)
      | inr later ↦ past-rest t at.0 xs rest rises.1 closes.1 later
    ]
past-rest t z (BadItem bad ∷ xs) rest rises closes some = at-last t xs rest (closes.0 refl)
past-rest t z (Faulted ∷ xs) rest rises closes some = at-last t xs rest (closes.0 refl)
past-rest t z (End ∷ xs) rest rises closes some = at-last t xs rest (closes.0 refl)

-- where a read failed behind a row that does not end before a moment, all that would stand behind the rows ends past it
past-failed : (t : ℕ) (z : ℤ) (symbol : List ℕ) (resolution : _) (rows rest : List Item) → Rises z (rows ++ rest) → Each (IsOfKind (Equity symbol resolution)) (rows ++ rest)
    → Closes (rows ++ rest) → fails_past t z (rows ++ Faulted ∷ []) ≡ true → Each (IsPast t) rest
past-failed t z symbol resolution [] rest rises are closes fails = past-bars t z symbol resolution rest (le-of (pos t) z fails) rises are
past-failed t z symbol resolution (BarItem bar ∷ rows) rest rises are closes fails =
    past-failed t bar.end.0 symbol resolution rows rest rises.1 are.1 closes.1 fails
past-failed t z symbol resolution (CoarseItem at row ∷ rows) rest rises are closes fails = absurd are.0
past-failed t z symbol resolution (BadItem bad ∷ rows) rest rises are closes fails = at-last t rows rest (closes.0 refl)
past-failed t z symbol resolution (Faulted ∷ rows) rest rises are closes fails = at-last t rows rest (closes.0 refl)
past-failed t z symbol resolution (End ∷ rows) rest rises are closes fails = at-last t rows rest (closes.0 refl)

-- a failed read among the items of a list is its last item
past-closed : (t : ℕ) (z : ℤ) (taken rest : List Item) → Closes (taken ++ rest) → fails_past t z taken ≡ true → Each (IsPast t) rest
past-closed t z [] rest closes fails = absurd (let wrong : false ≡ true = fails in cc)
past-closed t z (BarItem bar ∷ taken) rest closes fails = past-closed t bar.end.0 taken rest closes.1 fails
past-closed t z (CoarseItem at row ∷ taken) rest closes fails = past-closed t at.0 taken rest closes.1 fails
past-closed t z (BadItem bad ∷ taken) rest closes fails = at-last t taken rest (closes.0 refl)
past-closed t z (Faulted ∷ taken) rest closes fails = at-last t taken rest (closes.0 refl)
past-closed t z (End ∷ taken) rest closes fails = at-last t taken rest (closes.0 refl)

-- ---- what a taken list that reaches a moment tells of it

-- the rows of what was taken are those of a front of the list, and the rest of the list ends past a moment
record HasAll (t : ℕ) (list taken : List Item) : Type 0 where
  rows : List Item
  rest : List Item
  is : list ≡ rows ++ rest
  past : Each (IsPast t) rest
  taken_is : (taken ≡ rows) ⊎ (taken ≡ rows ++ Faulted ∷ [])

any-last : (t : ℕ) (xs : List Item) → list_any (is_past t) (xs ++ Faulted ∷ []) ≡ true → list_any (is_past t) xs ≡ true
any-last t [] some = some
any-last t (x ∷ xs) some = by (is_past t x) (any-last t xs) some
  where
    by : (b : Bool) → (list_any (is_past t) (xs ++ Faulted ∷ []) ≡ true → list_any (is_past t) xs ≡ true) → (b || list_any (is_past t) (xs ++ Faulted ∷ [])) ≡ true → (b || list_any (is_past t) xs) ≡ true
    by true later is = refl
    by false later is = later is

has-all : (kind : FeedKind) (z : ℤ) (t : ℕ) (list taken : List Item) → Rises z list → Each (IsOfKind kind) list → Closes list → Follows list taken
    → reaches kind z t taken ≡ true → HasAll t list taken
has-all CoarseFiles z t list taken rises are closes (inl all) reached = record {
  rows = taken;
  rest = all.0;
  is = all.1;
  past = past-rest t z taken all.0 (subst (Rises z) all.1 rises) (subst Closes all.1 closes) reached;
  taken_is = inl refl;
}
has-all CoarseFiles z t list taken rises are closes (inr (rows, rest, is, whole, row)) reached = record {
  rows = rows;
  rest = rest;
  is = whole;
  past = past-rest t z rows rest (subst (Rises z) whole rises) (subst Closes whole closes) (any-last t rows (ap (list_any (is_past t)) (sym is) ∙ reached));
  taken_is = inr is;
}
has-all (Equity symbol resolution) z t list taken rises are closes (inl all) reached = record {
  rows = taken;
  rest = all.0;
  is = all.1;
  past =
      elim (or-split (list_any (is_past t) taken) (fails_past t z taken) reached) [
        | inl some ↦ past-rest t z taken all.0 (subst (Rises z) all.1 rises) (subst Closes all.1 closes) some
        | inr fails ↦ past-closed t z taken all.0 (subst Closes all.1 closes) fails
      ];
  taken_is = inl refl;
}
has-all (Equity symbol resolution) z t list taken rises are closes (inr (rows, rest, is, whole, row)) reached = record {
  rows = rows;
  rest = rest;
  is = whole;
  past =
      elim (or-split (list_any (is_past t) taken) (fails_past t z taken) reached) [
        | inl some ↦ past-rest t z rows rest (subst (Rises z) whole rises) (subst Closes whole closes) (any-last t rows (ap (list_any (is_past t)) (sym is) ∙ some))
        | inr fails ↦
            past-failed t z symbol resolution rows rest (subst (Rises z) whole rises) (subst (Each (IsOfKind (Equity symbol resolution))) whole are) (subst Closes whole closes)
            (ap (fails_past t z) (sym is) ∙ fails)
      ];
  taken_is = inr is;
}

module _ {A : Type 0} (of : Item → Option A) (failed : of Faulted ≡ None) where
  filter_map-both : (xs ys : List Item) → filter_map of (xs ++ ys) ≡ filter_map of xs ++ filter_map of ys
  filter_map-both [] ys = refl
  filter_map-both (x ∷ xs) ys = by (of x) (filter_map-both xs ys)
    where
      by : (o : Option A) → filter_map of (xs ++ ys) ≡ filter_map of xs ++ filter_map of ys
          → cons_option o (filter_map of (xs ++ ys)) ≡ cons_option o (filter_map of xs) ++ filter_map of ys
      by None is = is
      by (Some a) is = ap (λ l. a ∷ l) is

  none-of : (xs : List Item) → Each (λ x. of x ≡ None) xs → filter_map of xs ≡ []
  none-of [] none = refl
  none-of (x ∷ xs) none = ap (λ o. cons_option o (filter_map of xs)) none.0 ∙ none-of xs none.1

  only-rows : (t : ℕ) (list taken : List Item) (all : HasAll t list taken) → Each (λ x. of x ≡ None) all.rest → filter_map of taken ≡ filter_map of list
  only-rows t list taken all none =
      by all.taken_is
      ∙ sym (append-nil (filter_map of all.rows)) ∙ ap (λ l. filter_map of all.rows ++ l) (sym (none-of all.rest none))
      ∙ sym (filter_map-both all.rows all.rest) ∙ ap (filter_map of) (sym all.is)
    where
      by : (taken ≡ all.rows) ⊎ (taken ≡ all.rows ++ Faulted ∷ []) → filter_map of taken ≡ filter_map of all.rows
      by (inl is) = ap (filter_map of) is
      by (inr is) =
          ap (filter_map of) is ∙ filter_map-both all.rows (Faulted ∷ [])
          ∙ ap (λ o. filter_map of all.rows ++ cons_option o []) failed ∙ append-nil (filter_map of all.rows)

later-end : (t u : ℕ) (z : ℤ) → u ≤ t → pos t <ℤ z → (unsigned_abs z == u) ≡ false
later-end t u z low past = grind (arith, ints, nat_tests)

other-bar : (t u : ℕ) (bar : Bar) → u ≤ t → pos t <ℤ bar.end.0 → bar_ending u (BarItem bar) ≡ None
other-bar t u bar low past = by (end_of bar == u) (later-end t u bar.end.0 low past)
  where
    by : (b : Bool) → b ≡ false → (if b then Some bar else None) ≡ None
    by true is = absurd (let wrong : true ≡ false = is in cc)
    by false is = refl

other-row : (t u : ℕ) (z : ℤ) (row : CoarseRow) → u ≤ t → pos t <ℤ z → (if unsigned_abs z == u then Some row else None) ≡ None
other-row t u z row low past = by (unsigned_abs z == u) (later-end t u z low past)
  where
    by : (b : Bool) → b ≡ false → (if b then Some row else None) ≡ None
    by true is = absurd (let wrong : true ≡ false = is in cc)
    by false is = refl

no-bar : (t u : ℕ) → u ≤ t → (items : List Item) → Each (IsPast t) items → Each (λ x. bar_ending u x ≡ None) items
no-bar t u low [] past = tt
no-bar t u low (BarItem bar ∷ items) past = (other-bar t u bar low past.0, no-bar t u low items past.1)
no-bar t u low (CoarseItem at row ∷ items) past = (refl, no-bar t u low items past.1)
no-bar t u low (BadItem bad ∷ items) past = (refl, no-bar t u low items past.1)
no-bar t u low (Faulted ∷ items) past = (refl, no-bar t u low items past.1)
no-bar t u low (End ∷ items) past = (refl, no-bar t u low items past.1)

no-row : (t u : ℕ) → u ≤ t → (items : List Item) → Each (IsPast t) items → Each (λ x. row_ending u x ≡ None) items
no-row t u low [] past = tt
no-row t u low (BarItem bar ∷ items) past = (refl, no-row t u low items past.1)
no-row t u low (CoarseItem at row ∷ items) past = (other-row t u at.0 row low past.0, no-row t u low items past.1)
no-row t u low (BadItem bad ∷ items) past = (refl, no-row t u low items past.1)
no-row t u low (Faulted ∷ items) past = (refl, no-row t u low items past.1)
no-row t u low (End ∷ items) past = (refl, no-row t u low items past.1)

module _ (kind : FeedKind) (z : ℤ) (t : ℕ) (list taken : List Item) (rises : Rises z list) (are : Each (IsOfKind kind) list) (closes : Closes list)
    (follows : Follows list taken) (reached : reaches kind z t taken ≡ true) where
  pub bars-told : (u : ℕ) → u ≤ t → bars_ending u taken ≡ bars_ending u list
  bars-told u low =
      let all = has-all kind z t list taken rises are closes follows reached in
      only-rows (bar_ending u) refl t list taken all (no-bar t u low all.rest all.past)

  pub rows-told : rows_ending t taken ≡ rows_ending t list
  rows-told =
      let all = has-all kind z t list taken rises are closes follows reached in
      only-rows (row_ending t) refl t list taken all (no-row t t (omega arith) all.rest all.past)

-- ---- a longer taken list reaches at least as far

any-more : (t : ℕ) (xs ys : List Item) → list_any (is_past t) xs ≡ true → list_any (is_past t) (xs ++ ys) ≡ true
any-more t [] ys some = absurd (let wrong : false ≡ true = some in cc)
any-more t (x ∷ xs) ys some = by (is_past t x) (any-more t xs ys) some
  where
    by : (b : Bool) → (list_any (is_past t) xs ≡ true → list_any (is_past t) (xs ++ ys) ≡ true) → (b || list_any (is_past t) xs) ≡ true → (b || list_any (is_past t) (xs ++ ys)) ≡ true
    by true later is = refl
    by false later is = later is

fails-more : (t : ℕ) (z : ℤ) (xs ys : List Item) → fails_past t z xs ≡ true → fails_past t z (xs ++ ys) ≡ true
fails-more t z [] ys fails = absurd (let wrong : false ≡ true = fails in cc)
fails-more t z (BarItem bar ∷ xs) ys fails = fails-more t bar.end.0 xs ys fails
fails-more t z (CoarseItem at row ∷ xs) ys fails = fails-more t at.0 xs ys fails
fails-more t z (BadItem bad ∷ xs) ys fails = fails-more t z xs ys fails
fails-more t z (Faulted ∷ xs) ys fails = fails
fails-more t z (End ∷ xs) ys fails = fails-more t z xs ys fails

or-more : (a b c d : Bool) → (a ≡ true → c ≡ true) → (b ≡ true → d ≡ true) → (a || b) ≡ true → (c || d) ≡ true
or-more a b c d first second is = by a b c first second is
  where
    by : (a b c : Bool) → (a ≡ true → c ≡ true) → (b ≡ true → d ≡ true) → (a || b) ≡ true → (c || d) ≡ true
    by a b true first second is = refl
    by true b false first second is = absurd (let wrong : false ≡ true = first refl in cc)
    by false b false first second is = second is

pub reaches-more : (kind : FeedKind) (z : ℤ) (t : ℕ) (xs ys : List Item) → reaches kind z t xs ≡ true → reaches kind z t (xs ++ ys) ≡ true
reaches-more CoarseFiles z t xs ys reached = any-more t xs ys reached
reaches-more (Equity symbol resolution) z t xs ys reached =
    or-more (list_any (is_past t) xs) (fails_past t z xs) (list_any (is_past t) (xs ++ ys)) (fails_past t z (xs ++ ys)) (any-more t xs ys) (fails-more t z xs ys) reached
