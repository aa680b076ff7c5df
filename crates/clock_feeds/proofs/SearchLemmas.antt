-- What a search, a filter and a last element tell.
use Rattle.std.proofs.Common.{◌≡◌, Bool, true, false, List, [], ◌∷◌, ◌++◌, refl, subst, true≢false}
use Rattle.std.specs.Prelude.{Option, Some, None, find, filter, cond, ◌&&◌}
use Rattle.std.specs.List.{list_all, last_or}
pub use Rattle.std.specs.List.{AllByRecursion as Each}

module _ {X : Type 0} where
  pub none_some : {x : X} → None ≡ Some x → ⊥
  none_some h = cc

  pub same_some : {x y : X} → Some x ≡ Some y → x ≡ y
  same_some h = cc

  -- what is found passes the test
  pub found : (p : X → Bool) (P : X → Type 0) (xs : List X) (x : X) → Each P xs → find p xs ≡ Some x → (p x ≡ true) × P x
  found p P [] x each is = absurd (none_some is)
  found p P (y ∷ ys) x each is = by (p y) refl (λ later. found p P ys x each.1 later) is
    where
      by : (b : Bool) → p y ≡ b → (find p ys ≡ Some x → (p x ≡ true) × P x) → cond b (Some y) (find p ys) ≡ Some x → (p x ≡ true) × P x
      by true passes later e = (subst (λ z. p z ≡ true) (same_some e) passes, subst P (same_some e) each.0)
      by false passes later e = later e

  pub last_holds : (P : X → Type 0) (xs : List X) (o : Option X) (x : X) → Each P xs → ((y : X) → o ≡ Some y → P y) → last_or o xs ≡ Some x → P x
  last_holds P [] o x each first is = first x is
  last_holds P (y ∷ ys) o x each first is = last_holds P ys (Some y) x each.1 (λ z e. subst P (same_some e) each.0) is

  filtered_step : (p : X → Bool) (P : X → Type 0) (y : X) (ys : List X) (b : Bool) → p y ≡ b → P y → Each (λ x. P x × (p x ≡ true)) (filter p ys)
      → Each (λ x. P x × (p x ≡ true)) (cond b (y ∷ filter p ys) (filter p ys))
  filtered_step p P y ys true passes holds rest = ((holds, passes), rest)
  filtered_step p P y ys false passes holds rest = rest

  pub each_filtered : (p : X → Bool) (P : X → Type 0) (xs : List X) → Each P xs → Each (λ x. P x × (p x ≡ true)) (filter p xs)
  each_filtered p P [] each = tt
  each_filtered p P (y ∷ ys) each = filtered_step p P y ys (p y) refl each.0 (each_filtered p P ys each.1)

  -- where not all pass, some element does not
  all_step : (p : X → Bool) (P : X → Type 0) (y : X) (ys : List X) (b : Bool) → p y ≡ b → P y → ((b && list_all p ys) ≡ false)
      → (list_all p ys ≡ false → (x : X) × P x × (p x ≡ false)) → (x : X) × P x × (p x ≡ false)
  all_step p P y ys true passes holds not later = later not
  all_step p P y ys false passes holds not later = (y, holds, passes)

  pub not_all : (p : X → Bool) (P : X → Type 0) (xs : List X) → Each P xs → list_all p xs ≡ false → (x : X) × P x × (p x ≡ false)
  not_all p P [] each not = absurd (true≢false not)
  not_all p P (y ∷ ys) each not = all_step p P y ys (p y) refl each.0 not (λ later. not_all p P ys each.1 later)

  pub each_both : (P : X → Type 0) (xs ys : List X) → Each P xs → Each P ys → Each P (xs ++ ys)
  each_both P [] ys first second = second
  each_both P (x ∷ xs) ys first second = (first.0, each_both P xs ys first.1 second)
