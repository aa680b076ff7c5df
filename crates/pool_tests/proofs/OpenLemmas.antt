-- Which feeds are open where one was begun, and where one was left.
use Rattle.std.proofs.Common.{◌≡◌, ◌≢◌, ℕ, ◌==◌, Bool, true, false, cond, eqb, List, ◌∷◌, inl, inr, refl, ap, ◌∙◌, arith}
use Rattle.std.specs.Prelude.{not, nat_lt}
use Rattle.std.specs.List.{filter}
use Rattle.std.proofs.lemmas.Bool.{ltb-true}
use Rattle.std.proofs.lemmas.Bool.Decides.{eqb_tells}
use Rattle.std.proofs.lemmas.List.Elements.{All-append, All-cons, All-filter, filter_passes}
use Rattle.lean_items.specs.declared.arrival.Arrival.{Arrival}
use Rattle.lean_items.specs.declared.feed_no.FeedNo.{FeedNo}
use Rattle.lean_items.specs.declared.item.Item.{Item}
use Rattle.lean_items.specs.Given.{is_last, IsRow}
use Rattle.frontier_sync.specs.Heads.{arrival, put, without, AreOpen}

-- heads whose feeds are open as before
open-filter : (old new : ℕ → Bool) (p : Arrival → Bool) (heads : List Arrival) → ((a : Arrival) → p a ≡ true → new a.feed.0 ≡ old a.feed.0)
    → AreOpen old heads → AreOpen new (filter p heads)
open-filter old new p heads same are k d within row =
    same _ (filter_passes p heads k d within) ∙ All-filter p (λ a. IsRow a.item → old a.feed.0 ≡ true) heads are k d within row

-- a feed that was not told apart from others is one of them
other : (n k : ℕ) (x y : Bool) → n ≢ k → cond (eqb n k) x y ≡ y
other n k x y differ = elim (eqb_tells n k) [ inl h ↦ absurd (differ h.1) | inr h ↦ ap (λ b. cond b x y) h.0 ]

here : (k : ℕ) (x y : Bool) → cond (eqb k k) x y ≡ x
here k x y = elim (eqb_tells k k) [ inl h ↦ ap (λ b. cond b x y) h.0 | inr h ↦ absurd (h.1 refl) ]

-- one feed was added, and an item was taken of it, which is its head
pub open-begun : (old new : ℕ → Bool) (feed : FeedNo) (item : Item) (heads : List Arrival)
    → ((n : ℕ) → new n ≡ cond (eqb n feed.0) (not (is_last item)) (cond (eqb n feed.0) true (old n)))
    → AreOpen old heads → AreOpen new (put (arrival feed item) heads)
open-begun old new feed item heads opened are =
    let P : Arrival → Type 0 = λ a. IsRow a.item → new a.feed.0 ≡ true in
    let below : (a : Arrival) → nat_lt a.feed.0 feed.0 ≡ true → a.feed.0 ≢ feed.0 = λ a h e. (let less = ltb-true a.feed.0 feed.0 h in absurd (omega (arith, less, e))) in
    let above : (a : Arrival) → nat_lt feed.0 a.feed.0 ≡ true → a.feed.0 ≢ feed.0 = λ a h e. (let less = ltb-true feed.0 a.feed.0 h in absurd (omega (arith, less, e))) in
    let same : (a : Arrival) → a.feed.0 ≢ feed.0 → new a.feed.0 ≡ old a.feed.0
    = λ a differ. opened a.feed.0 ∙ other a.feed.0 feed.0 (not (is_last item)) (cond (eqb a.feed.0 feed.0) true (old a.feed.0)) differ ∙ other a.feed.0 feed.0 true (old a.feed.0) differ in
    let row : P (arrival feed item) = λ r. opened feed.0 ∙ here feed.0 (not (is_last item)) (cond (eqb feed.0 feed.0) true (old feed.0)) ∙ ap not r in
    All-append P (filter (λ b. nat_lt b.feed.0 feed.0) heads) (arrival feed item ∷ filter (λ b. nat_lt feed.0 b.feed.0) heads)
    (open-filter old new (λ b. nat_lt b.feed.0 feed.0) heads (λ a h. same a (below a h)) are)
    (All-cons P (arrival feed item) (filter (λ b. nat_lt feed.0 b.feed.0) heads) row
    (open-filter old new (λ b. nat_lt feed.0 b.feed.0) heads (λ a h. same a (above a h)) are))

-- one feed was removed, and its head taken away
pub open-left : (old new : ℕ → Bool) (feed : ℕ) (heads : List Arrival) → ((n : ℕ) → new n ≡ cond (eqb n feed) false (old n))
    → AreOpen old heads → AreOpen new (without feed heads)
open-left old new feed heads opened are =
    open-filter old new (λ a. not (a.feed.0 == feed)) heads
    (λ a h. opened a.feed.0 ∙ other a.feed.0 feed false (old a.feed.0) (λ e. elim (eqb_tells a.feed.0 feed) [ inl k ↦ absurd cc | inr k ↦ k.1 e ]))
    are
