-- Ranks in order are the only list of the same ranks that is in order.
use Rattle.std.proofs.Common.{ℕ, suc, ◌+◌, ◌≤◌, ℤ, Bool, true, false, cond, not, ◌&&◌, ◌≡◌, List, [], ◌∷◌, get_or, refl, sym, ap, ◌∙◌, subst, inl, inr, arith, Ordering}
use Rattle.std.specs.Cmp.{IsTotalOrder}
use Rattle.std.specs.Cmp.Lexicographic.{slice_cmp, bytes_decides, texts_ties}
use Rattle.std.specs.List.{list_all, sum_by}
use Rattle.std.specs.List.Sorted.{IsPermutation, IsSorted}
use Rattle.std.specs.declared.cmp.Ordering.TheVariants.{Less, Equal, Greater}
use Rattle.std.specs.declared.cmp.Reverse.{Reverse}
use Rattle.std.specs.Ordering.{int_cmp, is_eq, is_lt, is_gt, nat_cmp, ordering_then, ordering_reverse}
use Rattle.std.proofs.lemmas.Bool.{cases_Bool, and_parts, and_from, true≢false, not-true}
use Rattle.std.proofs.lemmas.Bool.Decides.{Decides-int_eq}
use Rattle.std.proofs.lemmas.Cmp.{int_cmp_total, nat_list_cmp_total, on_total, then_total, back_total, upto, tied_itself}
use Rattle.std.proofs.lemmas.List.Sorted.{sum_by-IsPermutation}
use Rattle.std.proofs.lemmas.List.Sums.{sum_by_from}
use Rattle.universe_rules.specs.Ranks.{Rank, rank_cmp, placed, in_order}

total : IsTotalOrder rank_cmp
total = then_total (on_total (λ (r : Rank). r.0.0) (back_total int_cmp_total)) (on_total (λ (r : Rank). r.1) nat_list_cmp_total)

then_equal : (a b : Ordering) → ordering_then a b ≡ Equal → (a ≡ Equal) × (b ≡ Equal)
then_equal Less b e = absurd (cc)
then_equal Equal b e = (refl, e)
then_equal Greater b e = absurd (cc)

same_dollars : (r s : Reverse ℤ) → r.0 ≡ s.0 → r ≡ s
same_dollars r s e = ap (λ (z : ℤ). let d : Reverse ℤ = record { 0 = z } in d) e

-- ranks that tie are the same
tie : (x y : Rank) → rank_cmp x y ≡ Equal → x ≡ y
tie x y e =
    let parts = then_equal (int_cmp y.0.0 x.0.0) (slice_cmp nat_cmp x.1 y.1) e in
    let dollars : y.0.0 ≡ x.0.0 = (Decides-int_eq y.0.0 x.0.0).0 (ap is_eq parts.0) in
    let symbol : x.1 ≡ y.1 = (bytes_decides x.1 y.1).0 (texts_ties x.1 y.1 ∙ ap is_eq parts.1) in
    ap (λ (d : Reverse ℤ). let r : Rank = (d, x.1) in r) (same_dollars x.0 y.0 (sym dollars)) ∙ ap (λ (s : List ℕ). let r : Rank = (y.0, s) in r) symbol

-- x stands behind y
abbrev behind : Rank → Rank → Bool
behind x y = is_gt (rank_cmp x y)

turned : (o : Ordering) → is_lt (ordering_reverse o) ≡ is_gt o
turned Less = refl
turned Equal = refl
turned Greater = refl

before_is : (x y : Rank) → is_lt (rank_cmp y x) ≡ behind x y
before_is x y = ap is_lt (total.antisymm y x) ∙ turned (rank_cmp x y)

not_both : (o : Ordering) → is_lt o ≡ true → is_gt o ≡ false
not_both Less t = refl
not_both Equal t = absurd (true≢false (sym t))
not_both Greater t = absurd (true≢false (sym t))

neither : (o : Ordering) → is_gt o ≡ false → is_gt (ordering_reverse o) ≡ false → o ≡ Equal
neither Less f g = absurd (true≢false g)
neither Equal f g = refl
neither Greater f g = absurd (true≢false f)

same_place : (x y : Rank) → behind x y ≡ false → behind y x ≡ false → x ≡ y
same_place x y f g = tie x y (neither (rank_cmp x y) f (sym (ap is_gt (total.antisymm y x)) ∙ g))

itself : (x : Rank) → behind x x ≡ false
itself x = ap is_gt (tied_itself total x)

abbrev is_rising : List Rank → Bool
is_rising [] = true
is_rising (x ∷ xs) = list_all (λ y. not (behind x y)) xs && is_rising xs

all_placed : (p : Rank → Bool) (x : Rank) (ys : List Rank) → p x ≡ true → list_all p ys ≡ true → list_all p (placed x ys) ≡ true
all_placed p x [] here all = and_from (p x) true here refl
all_placed p x (y ∷ ys) here all =
    let parts = and_parts (p y) (list_all p ys) all in
    elim (is_lt (rank_cmp y x)) as (λ b. list_all p (cond b (y ∷ placed x ys) (x ∷ y ∷ ys)) ≡ true) [
      | true ↦ and_from (p y) (list_all p (placed x ys)) parts.0 (all_placed p x ys here parts.1)
      | false ↦ and_from (p x) (p y && list_all p ys) here all
    ]

all_behind : (x y : Rank) (zs : List Rank) → behind x y ≡ false → list_all (λ z. not (behind y z)) zs ≡ true → list_all (λ z. not (behind x z)) zs ≡ true
all_behind x y [] f all = refl
all_behind x y (z ∷ zs) f all =
    let parts = and_parts (not (behind y z)) (list_all (λ z. not (behind y z)) zs) all in
    and_from (not (behind x z)) (list_all (λ z. not (behind x z)) zs) (ap not (upto total x y z f (not-true (behind y z) parts.0))) (all_behind x y zs f parts.1)

rising_placed : (x : Rank) (ys : List Rank) → is_rising ys ≡ true → is_rising (placed x ys) ≡ true
rising_placed x [] up = refl
rising_placed x (y ∷ ys) up =
    let parts = and_parts (list_all (λ z. not (behind y z)) ys) (is_rising ys) up in
    elim (cases_Bool (is_lt (rank_cmp y x))) [
      | inl first ↦
          ap (λ b. is_rising (cond b (y ∷ placed x ys) (x ∷ y ∷ ys))) first
          ∙ and_from _ _ (all_placed (λ z. not (behind y z)) x ys (ap not (not_both (rank_cmp y x) first)) parts.0) (rising_placed x ys parts.1)
      | inr later ↦
          (let here : behind x y ≡ false = sym (before_is x y) ∙ later in
          ap (λ b. is_rising (cond b (y ∷ placed x ys) (x ∷ y ∷ ys))) later
          ∙ and_from _ _ (and_from _ _ (ap not here) (all_behind x y ys here parts.0)) up)
    ]

rising_in_order : (xs : List Rank) → is_rising (in_order xs) ≡ true
rising_in_order [] = refl
rising_in_order (x ∷ xs) = rising_placed x (in_order xs) (rising_in_order xs)

-- ---- the same ranks, by every sum over them

sum_cons : (f : Rank → ℕ) (x : Rank) (xs : List Rank) → sum_by f (x ∷ xs) ≡ f x + sum_by f xs
sum_cons f x xs = sum_by_from f (0 + f x) xs ∙ ap (λ n. n + sum_by f xs) (omega arith)

sum_placed : (f : Rank → ℕ) (x : Rank) (ys : List Rank) → sum_by f (placed x ys) ≡ f x + sum_by f ys
sum_placed f x [] = sum_cons f x []
sum_placed f x (y ∷ ys) =
    let rest : sum_by f (placed x ys) ≡ f x + sum_by f ys = sum_placed f x ys in
    elim (is_lt (rank_cmp y x)) as (λ b. sum_by f (cond b (y ∷ placed x ys) (x ∷ y ∷ ys)) ≡ f x + sum_by f (y ∷ ys)) [
      | true ↦ omega (arith, sum_cons f y (placed x ys), sum_cons f y ys, rest)
      | false ↦ sum_cons f x (y ∷ ys)
    ]

sum_in_order : (f : Rank → ℕ) (xs : List Rank) → sum_by f (in_order xs) ≡ sum_by f xs
sum_in_order f [] = refl
sum_in_order f (x ∷ xs) = sum_placed f x (in_order xs) ∙ ap (λ n. f x + n) (sum_in_order f xs) ∙ sym (sum_cons f x xs)

-- one for each rank that ties with x
abbrev tied : Rank → Rank → ℕ
tied x y = cond (is_eq (rank_cmp x y)) 1 0

is_tied : (o : Ordering) → is_eq o ≡ true → o ≡ Equal
is_tied Less t = absurd (true≢false (sym t))
is_tied Equal t = refl
is_tied Greater t = absurd (true≢false (sym t))

found : (x : Rank) (p : Rank → Bool) (ys : List Rank) → 1 ≤ sum_by (tied x) ys → list_all p ys ≡ true → p x ≡ true
found x p [] some all = absurd (omega arith)
found x p (y ∷ ys) some all =
    let parts = and_parts (p y) (list_all p ys) all in
    elim (cases_Bool (is_eq (rank_cmp x y))) [
      | inl same ↦ subst (λ z. p z ≡ true) (sym (tie x y (is_tied (rank_cmp x y) same))) parts.0
      | inr other ↦
          (let none : tied x y ≡ 0 = ap (λ b. cond b 1 0) other in
          found x p ys (omega (arith, sum_cons (tied x) y ys, none)) parts.1)
    ]

heads_tie : (x y : Rank) (xs ys : List Rank) → is_rising (y ∷ ys) ≡ true → sum_by (tied x) (x ∷ xs) ≡ sum_by (tied x) (y ∷ ys) → behind y x ≡ false
heads_tie x y xs ys up same =
    let own : tied x x ≡ 1 = ap (λ o. cond (is_eq o) 1 0) (tied_itself total x) in
    let some : 1 ≤ sum_by (tied x) (y ∷ ys) = omega (arith, sum_cons (tied x) x xs, own, same) in
    let parts = and_parts (list_all (λ z. not (behind y z)) ys) (is_rising ys) up in
    not-true (behind y x) (found x (λ z. not (behind y z)) (y ∷ ys) some (and_from _ _ (ap not (itself y)) parts.0))

pub only_one : (xs ys : List Rank) → is_rising xs ≡ true → is_rising ys ≡ true → ((f : Rank → ℕ) → sum_by f xs ≡ sum_by f ys) → xs ≡ ys
only_one [] [] up on same = refl
only_one [] (y ∷ ys) up on same = absurd (omega (arith, same (λ _. 1), sum_cons (λ _. 1) y ys))
only_one (x ∷ xs) [] up on same = absurd (omega (arith, same (λ _. 1), sum_cons (λ _. 1) x xs))
only_one (x ∷ xs) (y ∷ ys) up on same =
    let head : x ≡ y = same_place x y (heads_tie y x ys xs up (sym (same (tied y)))) (heads_tie x y xs ys on (same (tied x))) in
    let tails : xs ≡ ys =
    only_one xs ys (and_parts (list_all (λ z. not (behind x z)) xs) (is_rising xs) up).1 (and_parts (list_all (λ z. not (behind y z)) ys) (is_rising ys) on).1
    (λ f. let e : f x ≡ f y = ap f head in omega (arith, same f, sum_cons f x xs, sum_cons f y ys, e)) in
    ap (λ z. z ∷ xs) head ∙ ap (λ zs. y ∷ zs) tails

-- ---- what a sort leaves is in order

rising_sorted : (ys : List Rank) → IsSorted rank_cmp ys → is_rising ys ≡ true
rising_sorted [] sorted = refl
rising_sorted (y ∷ []) sorted = refl
rising_sorted (y ∷ z ∷ zs) sorted =
    let next : behind y z ≡ false = sym (before_is y z) ∙ sorted 0 y (omega arith) (omega arith) in
    let rest : is_rising (z ∷ zs) ≡ true = rising_sorted (z ∷ zs) (sorted_tail y z zs sorted) in
    let parts = and_parts (list_all (λ x. not (behind z x)) zs) (is_rising zs) rest in
    and_from _ _ (and_from _ _ (ap not next) (all_behind y z zs next parts.0)) rest
  where
    sorted_tail : (y z : Rank) (zs : List Rank) → IsSorted rank_cmp (y ∷ z ∷ zs) → IsSorted rank_cmp (z ∷ zs)
    sorted_tail y z zs sorted k d low within =
        let next : suc k + 1 ≡ suc (k + 1) = omega arith in
        let P : ℕ → Type 0 = λ i. is_lt (rank_cmp (get_or (y ∷ z ∷ zs) i d) (get_or (z ∷ zs) k d)) ≡ false in
        subst P next (sorted (suc k) d (omega arith) (omega arith))

pub sorted_is : (xs ys : List Rank) → IsPermutation xs ys → IsSorted rank_cmp ys → ys ≡ in_order xs
sorted_is xs ys same sorted =
    only_one ys (in_order xs) (rising_sorted ys sorted) (rising_in_order xs)
    (λ f. sum_by-IsPermutation f xs ys same ∙ sym (sum_in_order f xs))
