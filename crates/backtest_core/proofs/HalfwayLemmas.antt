-- A loop that goes through a list beside another one: the items before a place are in one relation, and those from it on in
-- another.
use Rattle.std.proofs.Common.{◌≡◌, ℕ, zero, suc, ◌<◌, ◌≤◌, List, [], ◌∷◌, refl, sym, subst, arith, length, take, get_or}
use Rattle.std.specs.Prelude.{map, set}
use Rattle.std.specs.List.{AllZip, AllByRecursion as Each}

-- an item at a place
abbrev pub IsAt : {B : Type 0} → ℕ → List B → B → Type 0
IsAt n [] y = ⊥
IsAt zero (z ∷ zs) y = z ≡ y
IsAt (suc n) (z ∷ zs) y = IsAt n zs y

pub each-front : {B : Type 0} (P : B → Type 0) (n : ℕ) (ys : List B) (y : B) → IsAt n ys y → Each P (take (suc n) ys)
    → Each P (take n ys) × P y
each-front P n [] y at all = elim at [ ]
each-front P zero (z ∷ zs) y at all = (tt, subst P at all.0)
each-front P (suc n) (z ∷ zs) y at all =
    let later = each-front P n zs y at all.1 in
    ((all.0, later.0), later.1)

pub each-at : {B : Type 0} (P : B → Type 0) (n : ℕ) (ys : List B) (y : B) → IsAt n ys y → Each P ys → P y
each-at P n [] y at all = elim at [ ]
each-at P zero (z ∷ zs) y at all = subst P at all.0
each-at P (suc n) (z ∷ zs) y at all = each-at P n zs y at all.1

module _ {A B : Type 0} (R S : A → B → Type 0) where
  abbrev pub Halfway : ℕ → List A → List B → Type 0
  Halfway n [] [] = Unit {0}
  Halfway n [] (y ∷ ys) = ⊥
  Halfway n (x ∷ xs) [] = ⊥
  Halfway zero (x ∷ xs) (y ∷ ys) = R x y × Halfway zero xs ys
  Halfway (suc n) (x ∷ xs) (y ∷ ys) = S x y × Halfway n xs ys

  pub halfway-none : (xs : List A) (ys : List B) → AllZip R xs ys → Halfway 0 xs ys
  halfway-none [] [] zip = tt
  halfway-none [] (y ∷ ys) zip = elim zip [ ]
  halfway-none (x ∷ xs) [] zip = elim zip [ ]
  halfway-none (x ∷ xs) (y ∷ ys) zip = (zip.0, halfway-none xs ys zip.1)

  -- the item of the other list at the place
  pub record Meets (n : ℕ) (ys : List B) (x : A) : Type 0 where
    pub other : B
    pub at : IsAt n ys other
    pub related : R x other

  pub halfway-meets : (n : ℕ) (xs : List A) (ys : List B) (d : A) → n < length xs → Halfway n xs ys → Meets n ys (get_or xs n d)
  halfway-meets n [] ys d within half = absurd (omega (arith, within))
  halfway-meets n (x ∷ xs) [] d within half = elim half [ ]
  halfway-meets zero (x ∷ xs) (y ∷ ys) d within half = record { other = y; at = refl; related = half.0 }
  halfway-meets (suc n) (x ∷ xs) (y ∷ ys) d within half =
      let later = halfway-meets n xs ys d (omega (arith, within)) half.1 in
      record { other = later.other; at = later.at; related = later.related }

  pub halfway-next : (n : ℕ) (xs : List A) (ys : List B) (x : A) (y : B) → n < length xs → IsAt n ys y → S x y
      → Halfway n xs ys → Halfway (suc n) (set xs n x) ys
  halfway-next n [] ys x y within at now half = absurd (omega (arith, within))
  halfway-next n (z ∷ xs) [] x y within at now half = elim half [ ]
  halfway-next zero (z ∷ xs) (y' ∷ ys) x y within at now half = (subst (S x) (sym at) now, half.1)
  halfway-next (suc n) (z ∷ xs) (y' ∷ ys) x y within at now half =
      (half.0, halfway-next n xs ys x y (omega (arith, within)) at now half.1)

  pub halfway-all : (n : ℕ) (xs : List A) (ys : List B) → length xs ≤ n → Halfway n xs ys → AllZip S xs ys
  halfway-all n [] [] all half = tt
  halfway-all n [] (y ∷ ys) all half = elim half [ ]
  halfway-all n (x ∷ xs) [] all half = elim half [ ]
  halfway-all zero (x ∷ xs) (y ∷ ys) all half = absurd (omega (arith, all))
  halfway-all (suc n) (x ∷ xs) (y ∷ ys) all half = (half.0, halfway-all n xs ys (omega (arith, all)) half.1)

-- a relation to what becomes of each item
pub zip-right : {A B C : Type 0} (S : A → C → Type 0) (g : B → C) (xs : List A) (ys : List B) → AllZip (λ x y. S x (g y)) xs ys → AllZip S xs (map g ys)
zip-right S g [] [] zip = tt
zip-right S g [] (y ∷ ys) zip = elim zip [ ]
zip-right S g (x ∷ xs) [] zip = elim zip [ ]
zip-right S g (x ∷ xs) (y ∷ ys) zip = (zip.0, zip-right S g xs ys zip.1)
