-- The bar at a moment between the rows that were passed and those that are left.
use Rattle.std.proofs.Common.{◌≡◌, ℕ, ◌+◌, ◌<◌, ◌≤◌, List, [], ◌∷◌, ◌++◌, Bool, true, false, refl, arith}
use Rattle.std.specs.Prelude.{Some, None, find, filter}
use Rattle.std.proofs.lemmas.Bool.Decides.{nat_tests}
use Rattle.lean_items.specs.declared.bar.Bar.{Bar}
use Rattle.clock_feeds.specs.Bars.{end_of, ends_at, ends_before}
use Rattle.clock_feeds.specs.Stands.{EndBy, Rises}

-- no row that ends by a moment ends at a later one
pub none_by : (at t : ℕ) (rows : List Bar) → EndBy at rows → at < t → find (ends_at t) rows ≡ None
none_by at t [] by lt = refl
none_by at t (row ∷ rows) by lt =
    let other : ends_at t row ≡ false = (let low : end_of row ≤ at = by.0 in grind (arith, nat_tests)) in
    rw other (none_by at t rows by.1 lt)

-- no row that rises from a moment on ends at it or before
pub none_later : (after t : ℕ) (rows : List Bar) → Rises after rows → t ≤ after → find (ends_at t) rows ≡ None
none_later after t [] rises le = refl
none_later after t (row ∷ rows) rises le =
    let other : ends_at t row ≡ false = (let up : after < end_of row = rises.0 in grind (arith, nat_tests)) in
    rw other (none_later (end_of row) t rows rises.1 (omega (arith, rises.0)))

pub find_behind : (p : Bar → Bool) (xs ys : List Bar) → find p xs ≡ None → find p (xs ++ ys) ≡ find p ys
find_behind p [] ys none = refl
find_behind p (x ∷ xs) ys none = here (p x) refl (find_behind p xs ys)
  where
    here : (b : Bool) → p x ≡ b → (find p xs ≡ None → find p (xs ++ ys) ≡ find p ys) → find p ((x ∷ xs) ++ ys) ≡ find p ys
    here true is later = absurd (let h : Some x ≡ None = rw is at none in cc)
    here false is later = rw is (later (let h : find p xs ≡ None = rw is at none in h))

-- the rows that end before a later moment are those that were passed
pub all_before : (at t : ℕ) (rows : List Bar) → EndBy at rows → at < t → filter (ends_before t) rows ≡ rows
all_before at t [] by lt = refl
all_before at t (row ∷ rows) by lt =
    let here : ends_before t row ≡ true = (let low : end_of row ≤ at = by.0 in grind (arith, nat_tests)) in
    rw (here, all_before at t rows by.1 lt) refl

pub none_before : (after t : ℕ) (rows : List Bar) → Rises after rows → t ≤ after + 1 → filter (ends_before t) rows ≡ []
none_before after t [] rises le = refl
none_before after t (row ∷ rows) rises le =
    let other : ends_before t row ≡ false = (let up : after < end_of row = rises.0 in grind (arith, nat_tests)) in
    rw (other, none_before (end_of row) t rows rises.1 (omega (arith, rises.0, le))) refl
