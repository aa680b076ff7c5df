-- A list that rises: nothing of it is passed over.
use Rattle.std.proofs.Common.{◌≡◌, true, false, ℤ, ◌≤ℤ◌, ◌<ℤ◌, List, [], ◌∷◌, ◌++◌, refl, sym, ap, ◌∙◌, subst, arith, inl, inr, append_assoc, append-nil}
use Rattle.std.specs.Prelude.{int_lt, int_le}
use Rattle.std.specs.List.{filter}
use Rattle.std.specs.Ordering.{int_eq}
use Rattle.std.proofs.lemmas.Bool.{cases_Bool, true≢false, and_parts}
use Rattle.std.proofs.lemmas.Bool.Decides.{Decides-int_eq}
use Rattle.std.proofs.lemmas.Int.{ints}
use Rattle.std.proofs.lemmas.List.Elements.{filter-append}
use Rattle.lean_items.specs.declared.item.Item.{Item}
use Rattle.lean_items.specs.declared.item.Item.TheVariants.{Bar, Coarse, Bad, Faulted, End}
use Rattle.lean_items.specs.Fits.{fits, end_or, Rises, is_bar_in_range, is_row_in_range}
use Rattle.lean_items.specs.Given.{IsRow, end_of}
use Rattle.frontier_sync.specs.Heads.{EndsFrom, EndsAfter}
use Rattle.frontier_sync.specs.Slices.{ends_at, given_of, Refilled}
use Rattle.frontier_sync.specs.Rising.{EndsOnce, AtMoment, PassesNone}
use Rattle.frontier_sync.proofs.RefillLemmas.{ending-row}

-- what fits behind a later end fits behind an earlier one
fits-earlier : (at after : ℤ) (item : Item) → at ≤ℤ after → fits after item ≡ true → fits at item ≡ true
fits-earlier at after (Bar bar) h f =
    let parts = and_parts (int_lt after bar.end.0) (is_bar_in_range bar) f in
    let less : int_lt at bar.end.0 ≡ true = (let l = parts.0 in grind (arith, ints)) in
    rw (less, parts.1) refl
fits-earlier at after (Coarse from row) h f =
    let parts = and_parts (int_le after from.0) (is_row_in_range from.0 row) f in
    let less : int_le at from.0 ≡ true = (let l = parts.0 in grind (arith, ints)) in
    rw (less, parts.1) refl
fits-earlier at after (Bad bad) h f = refl
fits-earlier at after Faulted h f = refl
fits-earlier at after End h f = refl

later-end : (at after : ℤ) (item : Item) → at ≤ℤ after → fits after item ≡ true → at ≤ℤ end_or after item
later-end at after (Bar bar) h f =
    let less = (and_parts (int_lt after bar.end.0) (is_bar_in_range bar) f).0 in grind (arith, ints)
later-end at after (Coarse from row) h f =
    let less = (and_parts (int_le after from.0) (is_row_in_range from.0 row) f).0 in grind (arith, ints)
later-end at after (Bad bad) h f = h
later-end at after Faulted h f = h
later-end at after End h f = h

-- of items that rise from an end on all fit behind a moment no later
pub all-fit : (at after : ℤ) (items : List Item) → at ≤ℤ after → Rises after items → filter (fits at) items ≡ items
all-fit at after [] h r = refl
all-fit at after (item ∷ items) h r =
    rw (fits-earlier at after item h r.0, all-fit at (end_or after item) items (later-end at after item h r.0) r.1) refl

pub rises-front : (after : ℤ) (xs ys : List Item) → Rises after (xs ++ ys) → Rises after xs
rises-front after [] ys r = tt
rises-front after (x ∷ xs) ys r = (r.0, rises-front (end_or after x) xs ys r.1)

ends-from : (at : ℤ) (after : ℤ) (head : Item) → IsRow head → EndsFrom at (end_of head) → at ≤ℤ end_or after head
ends-from at after (Bar bar) row from = from
ends-from at after (Coarse end bar) row from = from
ends-from at after (Bad bad) row from = absurd (true≢false row)
ends-from at after Faulted row from = absurd (true≢false row)
ends-from at after End row from = absurd (true≢false row)

pub after-none : (at : ℤ) (item : Item) → EndsAfter at (end_of item) → ends_at at item ≡ false
after-none at (Bar bar) h = apart at bar.end.0 h
  where
    apart : (t e : ℤ) → t <ℤ e → int_eq e t ≡ false
    apart t e less = elim (cases_Bool (int_eq e t)) [
      | inl same ↦ (let is : e ≡ t = (Decides-int_eq e t).0 same in absurd (omega (arith, ints)))
      | inr other ↦ other
    ]
after-none at (Coarse end row) h = after-none-at at end.0 h
  where
    after-none-at : (t e : ℤ) → t <ℤ e → int_eq e t ≡ false
    after-none-at t e less = elim (cases_Bool (int_eq e t)) [
      | inl same ↦ (let is : e ≡ t = (Decides-int_eq e t).0 same in absurd (omega (arith, ints)))
      | inr other ↦ other
    ]
after-none at (Bad bad) h = refl
after-none at Faulted h = refl
after-none at End h = refl

-- of items that rise from past a moment none ends there
pub none-ends : (at after : ℤ) (items : List Item) → at <ℤ after → Rises after items → filter (ends_at at) items ≡ []
none-ends at after [] h r = refl
none-ends at after (item ∷ items) h r =
    let ends : EndsAfter at (end_of item) × (at <ℤ end_or after item) = later at after item h r.0 in
    rw (after-none at item ends.0, none-ends at (end_or after item) items ends.1 r.1) refl
  where
    later : (at after : ℤ) (item : Item) → at <ℤ after → fits after item ≡ true → EndsAfter at (end_of item) × (at <ℤ end_or after item)
    later at after (Bar bar) h f =
        let less = (and_parts (int_lt after bar.end.0) (is_bar_in_range bar) f).0 in
        let past : at <ℤ bar.end.0 = grind (arith, ints) in (past, past)
    later at after (Coarse from row) h f =
        let less = (and_parts (int_le after from.0) (is_row_in_range from.0 row) f).0 in
        let past : at <ℤ from.0 = grind (arith, ints) in (past, past)
    later at after (Bad bad) h f = (tt, h)
    later at after Faulted h f = (tt, h)
    later at after End h f = (tt, h)

-- behind a next head nothing ends at the moment, or it is the last item
pub rest-none : (at after : ℤ) (next : Item) (rest : List Item) → Rises after (next ∷ rest) → EndsOnce (next ∷ rest) → EndsAfter at (end_of next)
    → filter (ends_at at) rest ≡ []
rest-none at after (Bar bar) rest r once later = none-ends at bar.end.0 rest later r.1
rest-none at after (Coarse from row) rest r once later = none-ends at from.0 rest later r.1
rest-none at after (Bad bad) rest r once later = ap (filter (ends_at at)) (once.0 refl)
rest-none at after Faulted rest r once later = ap (filter (ends_at at)) (once.0 refl)
rest-none at after End rest r once later = ap (filter (ends_at at)) (once.0 refl)

-- the part of a list behind some items
pub rises-behind : (after : ℤ) (xs ys : List Item) → Rises after (xs ++ ys) → (late : ℤ) × Rises late ys
rises-behind after [] ys r = (after, r)
rises-behind after (x ∷ xs) ys r = rises-behind (end_or after x) xs ys r.1

pub once-behind : (xs ys : List Item) → EndsOnce (xs ++ ys) → EndsOnce ys
once-behind [] ys o = o
once-behind (x ∷ xs) ys o = once-behind xs ys o.1

-- a head whose feed was not touched
head-taken : (at after : ℤ) (head : Item) (taken rest : List Item) → Rises after (head ∷ taken ++ rest) → EndsFrom at (end_of head)
    → (ends_at at head ≡ false → taken ≡ []) → filter (fits at) taken ≡ taken
head-taken at after head taken rest r from idle = elim (cases_Bool (ends_at at head)) [
  | inl ends ↦ all-fit at (end_or after head) taken (ends-from at after head (ending-row at head ends) from) (rises-front (end_or after head) taken rest r.1)
  | inr other ↦ (let none = idle other in ap (filter (fits at)) none ∙ sym none)
]

pub none-passed : (at : ℤ) (head : Item) (taken rest : List Item) (next : Item) → AtMoment at head taken rest → Refilled at head taken next
    → PassesNone at head taken rest next
none-passed at head taken rest next m f =
    let all : head ∷ taken ≡ given_of at head taken ++ next ∷ [] =
    ap (λ xs. head ∷ xs) (sym (head-taken at m.after head taken rest m.rises m.from f.idle)) ∙ f.kept in
    let list : head ∷ taken ++ rest ≡ given_of at head taken ++ next ∷ rest =
    ap (λ xs. xs ++ rest) all ∙ append_assoc (given_of at head taken) (next ∷ []) rest in
    let behind = rises-behind m.after (given_of at head taken) (next ∷ rest) (subst (λ xs. Rises m.after xs) list m.rises) in
    let once = once-behind (given_of at head taken) (next ∷ rest) (subst (λ xs. EndsOnce xs) list m.once) in
    let none = rest-none at behind.0 next rest behind.1 once (f.later m.from) in
    let same : filter (ends_at at) (head ∷ taken) ≡ given_of at head taken =
    ap (λ xs. filter (ends_at at) (head ∷ xs)) (sym (head-taken at m.after head taken rest m.rises m.from f.idle)) in
    record {
      all = all;
      whole = sym (filter-append (ends_at at) (head ∷ taken) rest ∙ rw none (append-nil (filter (ends_at at) (head ∷ taken))) ∙ same);
    }
