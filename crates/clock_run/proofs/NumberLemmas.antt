-- Numbers of feeds that rise, and symbols that differ, as securities come and go.
use Rattle.std.proofs.Common.{◌≡◌, ℕ, suc, ◌+◌, ◌-◌, ◌≤◌, List, [], ◌∷◌, ◌++◌, Bool, true, false, refl, ap, sym, subst, ◌∙◌, arith}
use Rattle.std.specs.Prelude.{cond, map, filter, length, take, zero, ◌||◌, min}
use Rattle.std.specs.List.{AllByRecursion as Each, IsDistinct, list_any}
use Rattle.std.proofs.lemmas.Bool.{or_parts, or_from}
use Rattle.std.proofs.lemmas.Cmp.{nat_list_eq_equiv}
use Rattle.std.proofs.lemmas.List.{append-nil, append_assoc, length-take}
use Rattle.std.proofs.lemmas.Map.Keys.{IsDistinct-head, IsDistinct-tail, IsDistinct-push}
use Rattle.universe_state.specs.Active.{Active, is_same, is_active}
use Rattle.universe_state.specs.Different.{symbols_of}
use Rattle.clock_run.specs.States.{Subscription, numbered}
use Rattle.clock_run.specs.Orderly.{number_of, NumbersRise}

-- rising numbers
pub rise-end : (from until : ℕ) (xs : List Subscription) → NumbersRise from until xs → from ≤ until
rise-end from until [] rises = rises
rise-end from until (x ∷ xs) rises =
    let low : from ≤ number_of x = rises.0 in
    let high : number_of x + 1 ≤ until = rise-end (number_of x + 1) until xs rises.1 in
    omega (arith, low, high)

pub rise-sooner : (sooner from until : ℕ) (xs : List Subscription) → sooner ≤ from → NumbersRise from until xs → NumbersRise sooner until xs
rise-sooner sooner from until [] le rises = omega (arith, le, rises)
rise-sooner sooner from until (x ∷ xs) le rises = (let low : from ≤ number_of x = rises.0 in omega (arith, le, low), rises.1)

pub rise-map : (f : Subscription → Subscription) → ((x : Subscription) → number_of (f x) ≡ number_of x) → (from until : ℕ) (xs : List Subscription)
    → NumbersRise from until xs → NumbersRise from until (map f xs)
rise-map f same from until [] rises = rises
rise-map f same from until (x ∷ xs) rises = (
  subst (λ n. from ≤ n) (sym (same x)) rises.0,
  subst (λ n. NumbersRise (n + 1) until (map f xs)) (sym (same x)) (rise-map f same (number_of x + 1) until xs rises.1),
)

pub rise-filter : (p : Subscription → Bool) (from until : ℕ) (xs : List Subscription) → NumbersRise from until xs → NumbersRise from until (filter p xs)
rise-filter p from until [] rises = rises
rise-filter p from until (x ∷ xs) rises = by (p x) (rise-filter p (number_of x + 1) until xs rises.1)
  where
    by : (b : Bool) → NumbersRise (number_of x + 1) until (filter p xs) → NumbersRise from until (cond b (x ∷ filter p xs) (filter p xs))
    by true later = (rises.0, later)
    by false later = rise-sooner from (number_of x + 1) until (filter p xs) (let low : from ≤ number_of x = rises.0 in omega (arith, low)) later

module _ {X : Type 0} (f : ℕ → X → Subscription) (number : (n : ℕ) (x : X) → number_of (f n x) ≡ n) where
  pub rise-numbered : (from n : ℕ) (xs : List X) → from ≤ n → NumbersRise from (n + length xs) (numbered f n xs)
  rise-numbered from n [] le = omega (arith, le)
  rise-numbered from n (x ∷ xs) le = (
    subst (λ m. from ≤ m) (sym (number n x)) le,
    subst (λ m. NumbersRise (m + 1) (n + suc (length xs)) (numbered f (n + 1) xs)) (sym (number n x))
        (subst (λ until. NumbersRise (n + 1) until (numbered f (n + 1) xs))
        (let e : n + 1 + length xs ≡ n + suc (length xs) = omega arith in e)
        (rise-numbered (n + 1) (n + 1) xs (omega arith))),
  )

  pub rise-append : (from until : ℕ) (xs : List Subscription) (ys : List X) → NumbersRise from until xs
      → NumbersRise from (until + length ys) (xs ++ numbered f until ys)
  rise-append from until [] ys rises = rise-numbered from until ys rises
  rise-append from until (x ∷ xs) ys rises = (rises.0, rise-append (number_of x + 1) until xs ys rises.1)

-- symbols that differ
any-push : {X : Type 0} (p : X → Bool) (xs : List X) (y : X) → list_any p xs ≡ false → p y ≡ false → list_any p (xs ++ y ∷ []) ≡ false
any-push p [] y none other = or_from (p y) false other refl
any-push p (x ∷ xs) y none other =
    let parts = or_parts (p x) (list_any p xs) none in
    or_from (p x) (list_any p (xs ++ y ∷ [])) parts.0 (any-push p xs y parts.1 other)

any-map : {X Y : Type 0} (p : Y → Bool) (f : X → Y) (xs : List X) → list_any p (map f xs) ≡ list_any (λ x. p (f x)) xs
any-map p f [] = refl
any-map p f (x ∷ xs) = ap (λ b. p (f x) || b) (any-map p f xs)

-- none of some symbols is among others
abbrev AreApart : List (List ℕ) → List (List ℕ) → Type 0
AreApart xs ys = Each (λ y. list_any (is_same y) xs ≡ false) ys

still-apart : (xs : List (List ℕ)) (y : List ℕ) (ys : List (List ℕ)) → AreApart xs ys → Each (λ z. is_same y z ≡ false) ys
    → AreApart (xs ++ y ∷ []) ys
still-apart xs y [] apart others = tt
still-apart xs y (z ∷ ys) apart others =
    (any-push (is_same z) xs y apart.0 (nat_list_eq_equiv.symm z y ∙ others.0), still-apart xs y ys apart.1 others.1)

pub distinct-append : (xs ys : List (List ℕ)) → IsDistinct is_same xs → IsDistinct is_same ys → AreApart xs ys
    → IsDistinct is_same (xs ++ ys)
distinct-append xs [] first second apart = subst (IsDistinct is_same) (sym (append-nil xs)) first
distinct-append xs (y ∷ ys) first second apart =
    subst (IsDistinct is_same) (append_assoc xs (y ∷ []) ys)
    (distinct-append (xs ++ y ∷ []) ys (IsDistinct-push nat_list_eq_equiv xs y first apart.0) (IsDistinct-tail is_same y ys second)
    (still-apart xs y ys apart.1 (IsDistinct-head is_same y ys second)))

each-take : {X : Type 0} (P : X → Type 0) (n : ℕ) (xs : List X) → Each P xs → Each P (take n xs)
each-take P zero xs all = tt
each-take P (suc n) [] all = tt
each-take P (suc n) (x ∷ xs) all = (all.0, each-take P n xs all.1)

pub distinct-take : (n : ℕ) (xs : List (List ℕ)) → IsDistinct is_same xs → IsDistinct is_same (take n xs)
unfolding IsDistinct
distinct-take zero xs distinct = tt
distinct-take (suc n) [] distinct = tt
distinct-take (suc n) (x ∷ xs) distinct = (each-take (λ y. is_same x y ≡ false) n xs distinct.0, distinct-take n xs distinct.1)

each-filter : {X Y : Type 0} (P : Y → Type 0) (f : X → Y) (p : X → Bool) (xs : List X) → Each P (map f xs) → Each P (map f (filter p xs))
each-filter P f p [] all = tt
each-filter P f p (x ∷ xs) all = by (p x) (each-filter P f p xs all.1)
  where
    by : (b : Bool) → Each P (map f (filter p xs)) → Each P (map f (cond b (x ∷ filter p xs) (filter p xs)))
    by true later = (all.0, later)
    by false later = later

pub distinct-filter : {X : Type 0} (f : X → List ℕ) (p : X → Bool) (xs : List X) → IsDistinct is_same (map f xs)
    → IsDistinct is_same (map f (filter p xs))
unfolding IsDistinct
distinct-filter f p [] distinct = tt
distinct-filter f p (x ∷ xs) distinct = by (p x) (distinct-filter f p xs distinct.1)
  where
    by : (b : Bool) → IsDistinct is_same (map f (filter p xs)) → IsDistinct is_same (map f (cond b (x ∷ filter p xs) (filter p xs)))
    by true later = (each-filter (λ y. is_same (f x) y ≡ false) f p xs distinct.0, later)
    by false later = later

-- what is not active is not among the symbols
pub inactive-apart : (u : List Active) (ys : List (List ℕ)) → Each (λ y. is_active u y ≡ false) ys → AreApart (symbols_of u) ys
inactive-apart u [] none = tt
inactive-apart u (y ∷ ys) none = (any-map (is_same y) (λ security. security.symbol) u ∙ none.0, inactive-apart u ys none.1)

pub length-numbered : {X Y : Type 0} (f : ℕ → X → Y) (n : ℕ) (xs : List X) → length (numbered f n xs) ≡ length xs
length-numbered f n [] = refl
length-numbered f n (x ∷ xs) = ap suc (length-numbered f (n + 1) xs)

pub length-filter : {X : Type 0} (p : X → Bool) (xs : List X) → length (filter p xs) ≤ length xs
length-filter p [] = omega arith
length-filter p (x ∷ xs) = by (p x) (length-filter p xs)
  where
    by : (b : Bool) → length (filter p xs) ≤ length xs → length (cond b (x ∷ filter p xs) (filter p xs)) ≤ suc (length xs)
    by true le = omega (arith, le)
    by false le = omega (arith, le)

-- as much as there is room for
pub room-left : {X : Type 0} (most n : ℕ) (xs : List X) → n ≤ most → n + length (take (most - n) xs) ≤ most
room-left most n xs le =
    let taken : length (take (most - n) xs) ≡ min (most - n) (length xs) = length-take (most - n) xs in
    omega (arith, taken, le)
