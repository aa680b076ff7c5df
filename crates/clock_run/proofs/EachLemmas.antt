-- Lists of which each item passes no test, or is not changed.
use Rattle.std.proofs.Common.{◌≡◌, ℕ, zero, suc, List, [], ◌∷◌, ◌++◌, Bool, true, false, refl, ap, ◌∙◌}
use Rattle.std.specs.Prelude.{Option, Some, None, cond, not, map, filter, flat_map, find, take}
use Rattle.std.specs.List.{AllByRecursion as Each, filter_map, cons_option}
use Rattle.std.specs.Option.{option_map_or}

module _ {X Y : Type 0} where
  pub filter_map-none : (f : X → Option Y) (xs : List X) → ((x : X) → f x ≡ None) → filter_map f xs ≡ []
  filter_map-none f [] none = refl
  filter_map-none f (x ∷ xs) none = ap (λ o. cons_option o (filter_map f xs)) (none x) ∙ filter_map-none f xs none

  pub flat_map-none : (f : X → List Y) (xs : List X) → Each (λ x. f x ≡ []) xs → flat_map f xs ≡ []
  flat_map-none f [] none = refl
  flat_map-none f (x ∷ xs) none = ap (λ ys. ys ++ flat_map f xs) none.0 ∙ flat_map-none f xs none.1

  pub flat_map-all_none : (f : X → List Y) (xs : List X) → ((x : X) → f x ≡ []) → flat_map f xs ≡ []
  flat_map-all_none f [] none = refl
  flat_map-all_none f (x ∷ xs) none = ap (λ ys. ys ++ flat_map f xs) (none x) ∙ flat_map-all_none f xs none

module _ {X : Type 0} where
  pub map-same : (f : X → X) (xs : List X) → ((x : X) → f x ≡ x) → map f xs ≡ xs
  map-same f [] same = refl
  map-same f (x ∷ xs) same = ap (λ y. y ∷ map f xs) (same x) ∙ ap (λ ys. x ∷ ys) (map-same f xs same)

  pub filter-none : (p : X → Bool) (xs : List X) → Each (λ x. p x ≡ false) xs → filter p xs ≡ []
  filter-none p [] none = refl
  filter-none p (x ∷ xs) none =
      ap (λ b. cond b (x ∷ filter p xs) (filter p xs)) none.0 ∙ filter-none p xs none.1

  pub filter-others : (p : X → Bool) (xs : List X) → Each (λ x. p x ≡ false) xs → filter (λ x. not (p x)) xs ≡ xs
  filter-others p [] none = refl
  filter-others p (x ∷ xs) none =
      ap (λ b. cond (not b) (x ∷ filter (λ y. not (p y)) xs) (filter (λ y. not (p y)) xs)) none.0
      ∙ ap (λ ys. x ∷ ys) (filter-others p xs none.1)

  pub find-none : (p : X → Bool) (xs : List X) → Each (λ x. p x ≡ false) xs → find p xs ≡ None
  find-none p [] none = refl
  find-none p (x ∷ xs) none = ap (λ b. cond b (Some x) (find p xs)) none.0 ∙ find-none p xs none.1

  -- what is found of some items passes no test that none of them passes
  pub find-fails : (p q : X → Bool) (xs : List X) → Each (λ x. p x ≡ false) xs → option_map_or p (find q xs) false ≡ false
  find-fails p q [] none = refl
  find-fails p q (x ∷ xs) none = by (q x) (find-fails p q xs none.1)
    where
      by : (b : Bool) → option_map_or p (find q xs) false ≡ false → option_map_or p (cond b (Some x) (find q xs)) false ≡ false
      by true later = none.0
      by false later = later

  pub each-all : {P : X → Type 0} (xs : List X) → ((x : X) → P x) → Each P xs
  each-all [] all = tt
  each-all (x ∷ xs) all = (all x, each-all xs all)

  pub each-through : {P Q : X → Type 0} (xs : List X) → ((x : X) → P x → Q x) → Each P xs → Each Q xs
  each-through [] through all = tt
  each-through (x ∷ xs) through all = (through x all.0, each-through xs through all.1)

  pub each-append : (P : X → Type 0) (xs ys : List X) → Each P xs → Each P ys → Each P (xs ++ ys)
  each-append P [] ys all more = more
  each-append P (x ∷ xs) ys all more = (all.0, each-append P xs ys all.1 more)

  pub each-take : (P : X → Type 0) (n : ℕ) (xs : List X) → Each P xs → Each P (take n xs)
  each-take P zero xs all = tt
  each-take P (suc n) [] all = tt
  each-take P (suc n) (x ∷ xs) all = (all.0, each-take P n xs all.1)

  pub each-if : (P : X → Type 0) (b : Bool) (xs : List X) → Each P xs → Each P (cond b xs [])
  each-if P true xs all = all
  each-if P false xs all = tt

  pub each-map : {Y : Type 0} (P : X → Type 0) (f : Y → X) (ys : List Y) → ((y : Y) → P (f y)) → Each P (map f ys)
  each-map P f [] all = tt
  each-map P f (y ∷ ys) all = (all y, each-map P f ys all)

  pub each-flat_map : {Y : Type 0} (P : X → Type 0) (f : Y → List X) (ys : List Y) → ((y : Y) → Each P (f y)) → Each P (flat_map f ys)
  each-flat_map P f [] all = tt
  each-flat_map P f (y ∷ ys) all = each-append P (f y) (flat_map f ys) (all y) (each-flat_map P f ys all)

  -- what passes no test is left by it
  pub filter-fails : (p : X → Bool) (xs : List X) → Each (λ x. p x ≡ false) (filter (λ x. not (p x)) xs)
  filter-fails p [] = tt
  filter-fails p (x ∷ xs) = by (p x) refl (filter-fails p xs)
    where
      by : (b : Bool) → p x ≡ b → Each (λ x. p x ≡ false) (filter (λ x. not (p x)) xs)
          → Each (λ x. p x ≡ false) (cond (not b) (x ∷ filter (λ x. not (p x)) xs) (filter (λ x. not (p x)) xs))
      by true is others = others
      by false is others = (is, others)

  pub take-nil : (n : ℕ) → take {A = X} n [] ≡ []
  take-nil zero = refl
  take-nil (suc n) = refl

pub if-none : {X : Type 0} (b : Bool) (o : Option X) → o ≡ None → cond b o None ≡ None
if-none true o none = none
if-none false o none = refl
