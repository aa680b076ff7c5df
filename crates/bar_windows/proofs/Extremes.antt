-- The first candidate is the extreme.
use Rattle.std.proofs.Common.{ℕ, ◌-◌, ◌≤◌, ℤ, ◌≤ℤ◌, true, cond, leb, ◌≡◌, List, [], ◌∷◌, length, fold, Some, None, option_map, refl, sym, ap, ◌∙◌, inl, inr, arith, length-drop}
use Rattle.std.specs.Int.{int_max, int_min}
use Rattle.std.specs.Int.RustNames.{int_le}
use Rattle.std.specs.List.{list_all, slice_get}
use Rattle.std.proofs.lemmas.Bool.{cases_Bool, and_parts, and_from, leb-true}
use Rattle.std.proofs.lemmas.Int.{ints, clamps}
use Rattle.lean_fixed.specs.declared.money.Price.{Price}
use Rattle.bar_windows.specs.declared.spec.Func.{Func}
use Rattle.bar_windows.specs.declared.spec.Func.TheVariants.{Highest, Lowest}
use Rattle.bar_windows.specs.Window.{last_closes, greatest, least, window}
use Rattle.bar_windows.specs.Kept.{reaches, candidates}
use Rattle.bar_windows.proofs.Ranks.{candidates_with, candidates_past, all_kept, first_reaches}

le_is : (a b : ℤ) → a ≤ℤ b → int_le a b ≡ true
le_is a b le = grind (arith, ints)

is_le : (a b : ℤ) → int_le a b ≡ true → a ≤ℤ b
is_le a b t = grind (arith, ints)

most : ℤ → List Price → ℤ
most a xs = fold (λ most other. int_max most other.0) a xs

fewest : ℤ → List Price → ℤ
fewest a xs = fold (λ most other. int_min most other.0) a xs

-- the greatest is above each, and not above what is
most_above : (a : ℤ) (xs : List Price) → (a ≤ℤ most a xs) × (list_all (λ x. int_le x.0 (most a xs)) xs ≡ true)
unfolding most
most_above a [] = (omega (arith, ints), refl)
most_above a (x ∷ xs) =
    let rest = most_above (int_max a x.0) xs in
    let first : int_max a x.0 ≤ℤ most (int_max a x.0) xs = rest.0 in
    (omega (arith, ints, clamps), and_from _ _ (le_is x.0 (most (int_max a x.0) xs) (omega (arith, ints, clamps))) rest.1)

most_below : (a f : ℤ) (xs : List Price) → a ≤ℤ f → list_all (λ x. int_le x.0 f) xs ≡ true → most a xs ≤ℤ f
unfolding most
most_below a f [] here all = here
most_below a f (x ∷ xs) here all =
    let parts = and_parts (int_le x.0 f) (list_all (λ y. int_le y.0 f) xs) all in
    let low : x.0 ≤ℤ f = is_le x.0 f parts.0 in
    most_below (int_max a x.0) f xs (omega (arith, ints, clamps)) parts.1

fewest_below : (a : ℤ) (xs : List Price) → (fewest a xs ≤ℤ a) × (list_all (λ x. int_le (fewest a xs) x.0) xs ≡ true)
unfolding fewest
fewest_below a [] = (omega (arith, ints), refl)
fewest_below a (x ∷ xs) =
    let rest = fewest_below (int_min a x.0) xs in
    let first : fewest (int_min a x.0) xs ≤ℤ int_min a x.0 = rest.0 in
    (omega (arith, ints, clamps), and_from _ _ (le_is (fewest (int_min a x.0) xs) x.0 (omega (arith, ints, clamps))) rest.1)

fewest_above : (a f : ℤ) (xs : List Price) → f ≤ℤ a → list_all (λ x. int_le f x.0) xs ≡ true → f ≤ℤ fewest a xs
unfolding fewest
fewest_above a f [] here all = here
fewest_above a f (x ∷ xs) here all =
    let parts = and_parts (int_le f x.0) (list_all (λ y. int_le f y.0) xs) all in
    let high : f ≤ℤ x.0 = is_le f x.0 parts.0 in
    fewest_above (int_min a x.0) f xs (omega (arith, ints, clamps)) parts.1

-- some close remains a candidate
some_kept : (func : Func) (x : Price) (xs : List Price) → candidates func (x ∷ xs) ≡ [] → ⊥
some_kept func x [] none = absurd (cc)
some_kept func x (y ∷ ys) none =
    elim (cases_Bool (list_all (reaches func x) (y ∷ ys))) [
      | inl yes' ↦ (let whole : x ∷ candidates func (y ∷ ys) ≡ [] = sym (candidates_with func x (y ∷ ys) yes') ∙ none in absurd (cc))
      | inr no' ↦ some_kept func y ys (sym (candidates_past func x (y ∷ ys) no') ∙ none)
    ]

first_most : (x : Price) (xs ks : List Price) → candidates Highest (x ∷ xs) ≡ ks → option_map (λ k. k.0) (slice_get ks 0) ≡ Some (most x.0 xs)
first_most x xs [] is = absurd (some_kept Highest x xs is)
first_most x xs (f ∷ rest) is =
    let all : list_all (reaches Highest f) (x ∷ xs) ≡ true = first_reaches Highest (x ∷ xs) f rest is in
    let parts = and_parts (int_le x.0 f.0) (list_all (λ y. int_le y.0 f.0) xs) all in
    let under : most x.0 xs ≤ℤ f.0 = most_below x.0 f.0 xs (is_le x.0 f.0 parts.0) parts.1 in
    let above = most_above x.0 xs in
    let kept : list_all (λ y. int_le y.0 (most x.0 xs)) (candidates Highest (x ∷ xs)) ≡ true =
    all_kept Highest (λ y. int_le y.0 (most x.0 xs)) (x ∷ xs) (and_from _ _ (le_is x.0 (most x.0 xs) above.0) above.1) in
    let first = and_parts (int_le f.0 (most x.0 xs)) (list_all (λ y. int_le y.0 (most x.0 xs)) rest) (sym (ap (list_all (λ y. int_le y.0 (most x.0 xs))) is) ∙ kept) in
    let over : f.0 ≤ℤ most x.0 xs = is_le f.0 (most x.0 xs) first.0 in
    ap Some (omega (arith, ints))

first_fewest : (x : Price) (xs ks : List Price) → candidates Lowest (x ∷ xs) ≡ ks → option_map (λ k. k.0) (slice_get ks 0) ≡ Some (fewest x.0 xs)
first_fewest x xs [] is = absurd (some_kept Lowest x xs is)
first_fewest x xs (f ∷ rest) is =
    let all : list_all (reaches Lowest f) (x ∷ xs) ≡ true = first_reaches Lowest (x ∷ xs) f rest is in
    let parts = and_parts (int_le f.0 x.0) (list_all (λ y. int_le f.0 y.0) xs) all in
    let over : f.0 ≤ℤ fewest x.0 xs = fewest_above x.0 f.0 xs (is_le f.0 x.0 parts.0) parts.1 in
    let below = fewest_below x.0 xs in
    let kept : list_all (λ y. int_le (fewest x.0 xs) y.0) (candidates Lowest (x ∷ xs)) ≡ true =
    all_kept Lowest (λ y. int_le (fewest x.0 xs) y.0) (x ∷ xs) (and_from _ _ (le_is (fewest x.0 xs) x.0 below.0) below.1) in
    let first = and_parts (int_le (fewest x.0 xs) f.0) (list_all (λ y. int_le (fewest x.0 xs) y.0) rest) (sym (ap (list_all (λ y. int_le (fewest x.0 xs) y.0)) is) ∙ kept) in
    let under : fewest x.0 xs ≤ℤ f.0 = is_le (fewest x.0 xs) f.0 first.0 in
    ap Some (omega (arith, ints))

-- the first candidate of some closes is their greatest or least
pub is_greatest : (xs : List Price) → 1 ≤ length xs → option_map (λ k. k.0) (slice_get (candidates Highest xs) 0) ≡ greatest xs
unfolding most
is_greatest [] some = absurd (omega arith)
is_greatest (x ∷ xs) some = first_most x xs (candidates Highest (x ∷ xs)) refl

pub is_least : (xs : List Price) → 1 ≤ length xs → option_map (λ k. k.0) (slice_get (candidates Lowest xs) 0) ≡ least xs
unfolding fewest
is_least [] some = absurd (omega arith)
is_least (x ∷ xs) some = first_fewest x xs (candidates Lowest (x ∷ xs)) refl

-- and so of the last closes, where there are enough
last_some : (n : ℕ) (closes : List Price) → 1 ≤ n → n ≤ length closes → 1 ≤ length (last_closes n closes)
last_some n closes positive enough = omega (arith, length-drop (length closes - n) closes)

pub highest_is : (n : ℕ) (closes : List Price) → 1 ≤ n
    → cond (leb n (length closes)) (option_map (λ k. k.0) (slice_get (candidates Highest (last_closes n closes)) 0)) None ≡ window Highest n closes
highest_is n closes positive =
    elim (cases_Bool (leb n (length closes))) [
      | inl full ↦
          ap (λ b. cond b (option_map (λ (k : Price). k.0) (slice_get (candidates Highest (last_closes n closes)) 0)) None) full
          ∙ is_greatest (last_closes n closes) (last_some n closes positive (leb-true n (length closes) full))
          ∙ sym (ap (λ b. cond b (greatest (last_closes n closes)) None) full)
      | inr part ↦
          ap (λ b. cond b (option_map (λ (k : Price). k.0) (slice_get (candidates Highest (last_closes n closes)) 0)) None) part
          ∙ sym (ap (λ b. cond b (greatest (last_closes n closes)) None) part)
    ]

pub lowest_is : (n : ℕ) (closes : List Price) → 1 ≤ n
    → cond (leb n (length closes)) (option_map (λ k. k.0) (slice_get (candidates Lowest (last_closes n closes)) 0)) None ≡ window Lowest n closes
lowest_is n closes positive =
    elim (cases_Bool (leb n (length closes))) [
      | inl full ↦
          ap (λ b. cond b (option_map (λ (k : Price). k.0) (slice_get (candidates Lowest (last_closes n closes)) 0)) None) full
          ∙ is_least (last_closes n closes) (last_some n closes positive (leb-true n (length closes) full))
          ∙ sym (ap (λ b. cond b (least (last_closes n closes)) None) full)
      | inr part ↦
          ap (λ b. cond b (option_map (λ (k : Price). k.0) (slice_get (candidates Lowest (last_closes n closes)) 0)) None) part
          ∙ sym (ap (λ b. cond b (least (last_closes n closes)) None) part)
    ]
