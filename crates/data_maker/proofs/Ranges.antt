-- What is left of a range of numbers, as a loop passes them.
use Rattle.std.proofs.Common.{◌≡◌, ℕ, suc, ◌+◌, ◌-◌, ◌<◌, List, ◌∷◌, ◌++◌, sym, ap, ◌∙◌, append_assoc, arith}
use Rattle.std.specs.List.{flat_map, range_with_len}

pub range-more : (end a : ℕ) → a < end → range_with_len a (end - a) ≡ a ∷ range_with_len (a + 1) (end - (a + 1))
range-more end a h =
    let e : end - a ≡ suc (end - (a + 1)) = omega (arith, h) in
    ap (λ n. range_with_len a n) e

-- what one number adds was appended
pub flat-more : {A : Type 0} → (f : ℕ → List A) (out more want : List A) (end a : ℕ) → a < end → more ≡ out ++ f a
    → out ++ flat_map f (range_with_len a (end - a)) ≡ want
    → more ++ flat_map f (range_with_len (a + 1) (end - (a + 1))) ≡ want
flat-more f out more want end a h appended before =
    ap (λ o. o ++ flat_map f (range_with_len (a + 1) (end - (a + 1)))) appended
    ∙ append_assoc out (f a) (flat_map f (range_with_len (a + 1) (end - (a + 1))))
    ∙ ap (λ r. out ++ flat_map f r) (sym (range-more end a h))
    ∙ before
