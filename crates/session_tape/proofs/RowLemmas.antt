-- What ends at a moment in a list, and whether the list is blocked then.
use Rattle.std.proofs.Common.{◌≡◌, ℕ, ◌+◌, ◌≤◌, Bool, true, false, ℤ, pos, negsuc, ◌≤ℤ◌, ◌<ℤ◌, List, [], ◌∷◌, ◌++◌, map, Option, Some, None, refl, sym, ap, ◌∙◌, arith, inl, inr}
use Rattle.std.specs.Prelude.{◌==◌, nat_le, int_lt, int_le, unsigned_abs, if◌then◌else◌, filter_map, slice_get}
use Rattle.std.specs.List.{All, filter, list_all, cons_option}
use Rattle.std.specs.Ordering.{int_eq}
use Rattle.std.proofs.lemmas.Bool.{cases_Bool, and_parts}
use Rattle.std.proofs.lemmas.Bool.Decides.{Decides-int_eq, eqb_tells}
use Rattle.std.proofs.lemmas.Int.{ints}
use Rattle.std.proofs.lemmas.List.Elements.{All-head, All-tail}
use Rattle.lean_items.specs.declared.bad.Bad.{Bad as BadLine}
use Rattle.lean_items.specs.declared.bar.Bar.{Bar as BarValue}
use Rattle.lean_items.specs.declared.feed_no.FeedNo.{FeedNo}
use Rattle.lean_items.specs.declared.item.Item.{Item}
use Rattle.lean_items.specs.declared.item.Item.TheVariants.{Bar, Coarse, Bad, Faulted, End}
use Rattle.lean_items.specs.Fits.{end_or, is_bar_in_range, is_row_in_range, Rises}
use Rattle.lean_items.specs.Given.{IsRow, end_of}
use Rattle.clock_feeds.specs.Bars.{end_of as bar_end}
use Rattle.clock_feeds.specs.Lists.{bars_ending, is_by, stop_in, blocked_in}
use Rattle.frontier_sync.specs.Heads.{arrival}
use Rattle.frontier_sync.specs.Slices.{ends_at}
use Rattle.frontier_sync.specs.Stands.{EndsBefore, is_coarse, AreBars}
use Rattle.session_tape.specs.Session.{SessionBar}
use Rattle.session_tape.specs.Shown.{shown_item, shown_one}

-- a moment from 0 on is its own absolute value
same_end : (e : ℤ) (t : ℕ) → pos 0 ≤ℤ e → int_eq e (pos t) ≡ (unsigned_abs e == t)
same_end (pos n) t low = elim (eqb_tells n t) [
  | inl h ↦ (Decides-int_eq (pos n) (pos t)).1 (ap pos h.1) ∙ sym h.0
  | inr h ↦ elim (cases_Bool (int_eq (pos n) (pos t))) [
    | inl same ↦ absurd (h.1 (omega (arith, ints, (Decides-int_eq (pos n) (pos t)).0 same)))
    | inr other ↦ other ∙ sym h.0
  ]
]
same_end (negsuc n) t low = absurd (omega (arith, ints, low))

pub end_from : (e : ℤ) (t : ℕ) → pos t ≤ℤ e → t ≤ unsigned_abs e
end_from (pos n) t low = omega (arith, ints, low)
end_from (negsuc n) t low = absurd (omega (arith, ints, low))

end_by : (e : ℤ) (t : ℕ) → pos 0 ≤ℤ e → e <ℤ pos (t + 1) → nat_le (unsigned_abs e) t ≡ true
end_by (pos n) t low up = (let le : n ≤ t = omega (arith, ints, up) in grind arith)
end_by (negsuc n) t low up = absurd (omega (arith, ints, low))

later : (after e : ℤ) → pos 0 ≤ℤ after → int_lt after e ≡ true → pos 0 ≤ℤ e
later after e low h = grind (arith, ints)

no_earlier : (after e : ℤ) → pos 0 ≤ℤ after → int_le after e ≡ true → pos 0 ≤ℤ e
no_earlier after e low h = grind (arith, ints)

-- the end of the next item of a list that rises from 0 on
pub next_end : (after : ℤ) (item : Item) (items : List Item) → pos 0 ≤ℤ after → Rises after (item ∷ items) → pos 0 ≤ℤ end_or after item
next_end after (Bar bar) items low r = later after bar.end.0 low (and_parts (int_lt after bar.end.0) (is_bar_in_range bar) r.0).0
next_end after (Coarse at row) items low r = no_earlier after at.0 low (and_parts (int_le after at.0) (is_row_in_range at.0 row) r.0).0
next_end after (Bad bad) items low r = low
next_end after Faulted items low r = low
next_end after End items low r = low

-- ---- what is shown of a list

module _ (symbols : List (List ℕ)) (n t : ℕ) (symbol : List ℕ) (named : slice_get symbols n ≡ Some symbol) where
  abbrev number : FeedNo
  number = record { 0 = n }

  abbrev here : List Item → List SessionBar
  here items = filter_map (shown_one symbols) (map (arrival number) (filter (ends_at (pos t)) items))

  abbrev bars_here : List Item → List SessionBar
  bars_here items = map (λ bar. let b : SessionBar = (symbol, bar) in b) (bars_ending t items)

  shown_bar : (bar : BarValue) → shown_item (slice_get symbols n) (Bar bar) ≡ Some (symbol, bar)
  shown_bar bar = rw named refl

  bar_step : (bar : BarValue) (items : List Item) (b : Bool) → int_eq bar.end.0 (pos t) ≡ b → (bar_end bar == t) ≡ b → here items ≡ bars_here items
      → here (Bar bar ∷ items) ≡ bars_here (Bar bar ∷ items)
  bar_step bar items true first second same = rw (first, second) (ap (λ o. cons_option o (here items)) (shown_bar bar) ∙ ap (λ xs. (symbol, bar) ∷ xs) same)
  bar_step bar items false first second same = rw (first, second) same

  coarse_step : (items : List Item) (row : Item) (b : Bool) → ends_at (pos t) row ≡ b → shown_item (slice_get symbols n) row ≡ None
      → here items ≡ bars_here items → here (row ∷ items) ≡ bars_here items
  coarse_step items row true first none same = rw first (ap (λ o. cons_option o (here items)) none ∙ same)
  coarse_step items row false first none same = rw first same

  -- the bars of a list that end at a moment are shown with the symbol of its feed
  pub shown_here : (after : ℤ) (items : List Item) → pos 0 ≤ℤ after → Rises after items → here items ≡ bars_here items
  shown_here after [] low r = refl
  shown_here after (Bar bar ∷ items) low r =
      let end : pos 0 ≤ℤ bar.end.0 = next_end after (Bar bar) items low r in
      let rest = shown_here bar.end.0 items end r.1 in
      bar_step bar items (bar_end bar == t) (same_end bar.end.0 t end) refl rest
  shown_here after (Coarse at row ∷ items) low r =
      coarse_step items (Coarse at row) (ends_at (pos t) (Coarse at row)) refl refl (shown_here at.0 items (next_end after (Coarse at row) items low r) r.1)
  shown_here after (Bad bad ∷ items) low r = shown_here after items low r.1
  shown_here after (Faulted ∷ items) low r = shown_here after items low r.1
  shown_here after (End ∷ items) low r = shown_here after items low r.1

-- ---- whether a list is blocked

pub before_row : (t : ℤ) (item : Item) → EndsBefore t (end_of item) → IsRow item
before_row t (Bar bar) h = refl
before_row t (Coarse at row) h = refl
before_row t (Bad bad) h = absurd h
before_row t Faulted h = absurd h
before_row t End h = absurd h

stop_none : (t : ℤ) (given : List Item) (rest : List Item) → All (λ item. EndsBefore t (end_of item)) given → stop_in (given ++ rest) ≡ stop_in rest
stop_none t [] rest before = refl
stop_none t (Bar bar ∷ given) rest before = stop_none t given rest (All-tail (λ item. EndsBefore t (end_of item)) (Bar bar) given before)
stop_none t (Coarse at row ∷ given) rest before = stop_none t given rest (All-tail (λ item. EndsBefore t (end_of item)) (Coarse at row) given before)
stop_none t (Bad bad ∷ given) rest before = absurd (All-head (λ item. EndsBefore t (end_of item)) (Bad bad) given before)
stop_none t (Faulted ∷ given) rest before = absurd (All-head (λ item. EndsBefore t (end_of item)) Faulted given before)
stop_none t (End ∷ given) rest before = absurd (All-head (λ item. EndsBefore t (end_of item)) End given before)

none_both : (b : Bool) → (let none : Option BadLine = None in if b then none else none) ≡ None
none_both true = refl
none_both false = refl

-- a list that ends with its end is never blocked
pub ended_open : (t : ℤ) (given : List Item) (u : ℕ) → All (λ item. EndsBefore t (end_of item)) given → blocked_in (given ++ End ∷ []) u ≡ None
ended_open t given u before = rw (stop_none t given (End ∷ []) before) (none_both (list_all (is_by u) (given ++ End ∷ [])))

-- rows that end before a moment, of a list that rises from 0 on, are past the minute before it
pub given_by : (after : ℤ) (given rest : List Item) (t : ℕ) → pos 0 ≤ℤ after → Rises after (given ++ rest)
    → All (λ item. EndsBefore (pos (t + 1)) (end_of item)) given → list_all (is_by t) given ≡ true
given_by after [] rest t low r before = refl
given_by after (Bar bar ∷ given) rest t low r before =
    let end : pos 0 ≤ℤ bar.end.0 = next_end after (Bar bar) (given ++ rest) low r in
    let up : bar.end.0 <ℤ pos (t + 1) = All-head (λ item. EndsBefore (pos (t + 1)) (end_of item)) (Bar bar) given before in
    rw (end_by bar.end.0 t end up) (given_by bar.end.0 given rest t end r.1 (All-tail (λ item. EndsBefore (pos (t + 1)) (end_of item)) (Bar bar) given before))
given_by after (Coarse at row ∷ given) rest t low r before =
    let end : pos 0 ≤ℤ at.0 = next_end after (Coarse at row) (given ++ rest) low r in
    let up : at.0 <ℤ pos (t + 1) = All-head (λ item. EndsBefore (pos (t + 1)) (end_of item)) (Coarse at row) given before in
    rw (end_by at.0 t end up) (given_by at.0 given rest t end r.1 (All-tail (λ item. EndsBefore (pos (t + 1)) (end_of item)) (Coarse at row) given before))
given_by after (Bad bad ∷ given) rest t low r before = absurd (All-head (λ item. EndsBefore (pos (t + 1)) (end_of item)) (Bad bad) given before)
given_by after (Faulted ∷ given) rest t low r before = absurd (All-head (λ item. EndsBefore (pos (t + 1)) (end_of item)) Faulted given before)
given_by after (End ∷ given) rest t low r before = absurd (All-head (λ item. EndsBefore (pos (t + 1)) (end_of item)) End given before)

-- an item among bars is no row of a coarse file
pub no_coarse : (given : List Item) (item : Item) (rest : List Item) → AreBars (given ++ item ∷ rest) → is_coarse item ≡ false
no_coarse [] item rest bars = All-head (λ x. is_coarse x ≡ false) item rest bars
no_coarse (x ∷ given) item rest bars = no_coarse given item rest (All-tail (λ y. is_coarse y ≡ false) x (given ++ item ∷ rest) bars)
