-- The items that are taken behind a head.
use Rattle.std.proofs.Common.{◌≡◌, ◌≢◌, ℕ, ◌==◌, Bool, true, false, not, cond, ℤ, ◌≤ℤ◌, ◌<ℤ◌, List, [], ◌∷◌, ◌++◌, map, refl, sym, ap, ◌∙◌, arith, append_assoc, append-nil}
use Rattle.std.specs.Prelude.{int_lt, int_le}
use Rattle.std.specs.List.{All, filter}
use Rattle.std.specs.Ordering.{int_eq}
use Rattle.std.proofs.lemmas.Bool.{true≢false, false≢true, and_parts}
use Rattle.std.proofs.lemmas.Bool.Decides.{Decides-int_eq, nat_tests}
use Rattle.std.proofs.lemmas.Int.{ints}
use Rattle.std.proofs.lemmas.List.{map-append}
use Rattle.std.proofs.lemmas.List.Elements.{filter-append}
use Rattle.lean_items.specs.declared.arrival.Arrival.{Arrival}
use Rattle.lean_items.specs.declared.feed_no.FeedNo.{FeedNo}
use Rattle.lean_items.specs.declared.item.Item.{Item}
use Rattle.lean_items.specs.declared.item.Item.TheVariants.{Bar, Coarse, Bad, Faulted, End}
use Rattle.lean_items.specs.Fits.{fits, is_bar_in_range, is_row_in_range}
use Rattle.lean_items.specs.Given.{is_last, IsRow, OnRow, end_of}
use Rattle.frontier_sync.specs.Heads.{arrival, EndsFrom, EndsAfter}
use Rattle.frontier_sync.specs.Slices.{ends_at, given_of, Refilled}
use Rattle.frontier_sync.proofs.PlaceLemmas.{kept-none}

-- what does not fit is a row
pub misfit-row : (at : ℤ) (item : Item) → fits at item ≡ false → IsRow item
misfit-row at (Bar bar) h = refl
misfit-row at (Coarse from row) h = refl
misfit-row at (Bad bad) h = absurd (true≢false h)
misfit-row at Faulted h = absurd (true≢false h)
misfit-row at End h = absurd (true≢false h)

-- what ends at a moment is a row
pub ending-row : (at : ℤ) (item : Item) → ends_at at item ≡ true → IsRow item
ending-row at (Bar bar) h = refl
ending-row at (Coarse from row) h = refl
ending-row at (Bad bad) h = absurd (false≢true h)
ending-row at Faulted h = absurd (false≢true h)
ending-row at End h = absurd (false≢true h)

pub on-row : (item : Item) (P : Type 0) → OnRow item P → IsRow item → P
on-row (Bar bar) P h row = h
on-row (Coarse from bar) P h row = h
on-row (Bad bad) P h row = absurd (true≢false row)
on-row Faulted P h row = absurd (true≢false row)
on-row End P h row = absurd (true≢false row)

-- what fits behind a moment ends no earlier
pub fits-from : (at : ℤ) (item : Item) → fits at item ≡ true → EndsFrom at (end_of item)
fits-from at (Bar bar) h =
    let less = (and_parts (int_lt at bar.end.0) (is_bar_in_range bar) h).0 in grind (arith, ints)
fits-from at (Coarse from row) h =
    let less = (and_parts (int_le at from.0) (is_row_in_range from.0 row) h).0 in grind (arith, ints)
fits-from at (Bad bad) h = tt
fits-from at Faulted h = tt
fits-from at End h = tt

other-after : (t e : ℤ) → int_eq e t ≡ false → t ≤ℤ e → t <ℤ e
other-after t e other from =
    let apart : e ≢ t = λ s. false≢true (sym other ∙ (Decides-int_eq e t).1 s) in
    omega (arith, ints)

pub after-from : (at : ℤ) (item : Item) → ends_at at item ≡ false → EndsFrom at (end_of item) → EndsAfter at (end_of item)
after-from at (Bar bar) other from = other-after at bar.end.0 other from
after-from at (Coarse end row) other from = other-after at end.0 other from
after-from at (Bad bad) other from = tt
after-from at Faulted other from = tt
after-from at End other from = tt

-- What was taken behind a head so far, what was given, and the head that stands now.
pub record Sofar (at : ℤ) (head : Item) (taken given : List Item) (next : Item) : Type 0 where
  pub kept : head ∷ filter (fits at) taken ≡ given ++ next ∷ []
  pub now : filter (ends_at at) given ≡ given
  pub idle : ends_at at head ≡ false → (taken ≡ []) × (next ≡ head)
  pub from : EndsFrom at (end_of head) → EndsFrom at (end_of next)

pub sofar-none : (at : ℤ) (head : Item) → Sofar at head [] [] head
sofar-none at head = record { kept = refl; now = refl; idle = λ e. (refl, refl); from = λ e. e }

pub sofar-more : (at : ℤ) (head : Item) (taken given : List Item) (now : Item) (passed : List Item) (next : Item)
    → Sofar at head taken given now → ends_at at now ≡ true → All (λ x. fits at x ≡ false) passed → fits at next ≡ true
    → Sofar at head (taken ++ (passed ++ next ∷ [])) (given ++ now ∷ []) next
sofar-more at head taken given now passed next s ends misfits fit = record {
  kept =
      ap (λ xs. head ∷ xs) (filter-append (fits at) taken (passed ++ next ∷ []))
      ∙ ap (λ xs. head ∷ (filter (fits at) taken ++ xs)) (filter-append (fits at) passed (next ∷ []) ∙ rw (kept-none (fits at) passed misfits, fit) refl)
      ∙ ap (λ xs. xs ++ next ∷ []) s.kept;
  now = filter-append (ends_at at) given (now ∷ []) ∙ rw (s.now, ends) refl;
  idle = λ other. absurd (true≢false (sym ends ∙ ap (ends_at at) (s.idle other).1 ∙ other));
  from = λ e. fits-from at next fit;
}

pub sofar-end : (at : ℤ) (head : Item) (taken given : List Item) (next : Item) → Sofar at head taken given next → ends_at at next ≡ false
    → Refilled at head taken next × (given_of at head taken ≡ given)
sofar-end at head taken given next s other =
    let is : given_of at head taken ≡ given =
    ap (filter (ends_at at)) s.kept ∙ filter-append (ends_at at) given (next ∷ []) ∙ rw (s.now, other) (append-nil given) in (
      record {
        kept = s.kept ∙ ap (λ xs. xs ++ next ∷ []) (sym is);
        idle = λ o. (s.idle o).0;
        later = λ e. after-from at next other (s.from e);
      },
      is,
    )

-- a row was taken of a feed that was open, and is open still
pub open-still : (first now next : ℕ → Bool) (feed : ℕ) (item : Item) → IsRow item → first feed ≡ true → ((n : ℕ) → now n ≡ first n)
    → ((n : ℕ) → next n ≡ cond (n == feed) (not (is_last item)) (now n)) → (n : ℕ) → next n ≡ first n
open-still first now next feed item row opened same step n = step n ∙ at (n == feed) refl
  where
    at : (b : Bool) → (n == feed) ≡ b → cond b (not (is_last item)) (now n) ≡ first n
    at true e =
        let here : n ≡ feed = grind (arith, nat_tests) in
        rw (row, here) (sym opened)
    at false e = same n

pub open-next : (now next : ℕ → Bool) (feed : ℕ) (item : Item) → ((n : ℕ) → next n ≡ cond (n == feed) (not (is_last item)) (now n))
    → IsRow item → next feed ≡ true
open-next now next feed item step row =
    let here : (feed == feed) ≡ true = grind (arith, nat_tests) in
    step feed ∙ rw (here, row) refl

pub open-others : (first now next : ℕ → Bool) (feed : ℕ) (item : Item) → ((n : ℕ) → n ≢ feed → now n ≡ first n)
    → ((n : ℕ) → next n ≡ cond (n == feed) (not (is_last item)) (now n)) → (n : ℕ) → n ≢ feed → next n ≡ first n
open-others first now next feed item same step n other =
    let away : (n == feed) ≡ false = grind (arith, nat_tests) in
    step n ∙ rw away (same n other)

-- one item more was given
pub given-more : (before now new : List Arrival) (feed : FeedNo) (given : List Item) (head : Arrival) → now ≡ before ++ map (arrival feed) given
    → new ≡ now ++ head ∷ [] → head.feed ≡ feed → new ≡ before ++ map (arrival feed) (given ++ head.item ∷ [])
given-more before now new feed given head was is same =
    is ∙ ap (λ xs. xs ++ head ∷ []) was ∙ append_assoc before (map (arrival feed) given) (head ∷ [])
    ∙ ap (λ (f : FeedNo). before ++ (map (arrival feed) given ++ arrival f head.item ∷ [])) same
    ∙ ap (λ xs. before ++ xs) (sym (map-append (arrival feed) given (head.item ∷ [])))
