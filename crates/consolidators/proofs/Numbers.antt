-- Lists of numbers, each of which stands in them once.
use Rattle.std.proofs.Common.{ℤ, Bool, true, false, cond, not, ◌&&◌, ◌||◌, ◌≡◌, List, [], ◌∷◌, ◌++◌, refl, ap, ◌∙◌, ◌⊎◌, inl, inr}
use Rattle.std.specs.List.{filter, list_any}
use Rattle.std.specs.Ordering.{int_eq}
use Rattle.std.proofs.lemmas.Bool.{cases_Bool, true≢false}
use Rattle.std.proofs.lemmas.Bool.Decides.{Decides-int_eq}
use Rattle.std.proofs.lemmas.Cmp.{int_eq_equiv}
use Rattle.std.proofs.lemmas.List.Elements.{filter-append}
use Rattle.std.proofs.lemmas.Map.Views.{any-filter_same}
use Rattle.consolidators.specs.Buckets.{distinct}

abbrev pub has : ℤ → List ℤ → Bool
has j ks = list_any (λ k. int_eq k j) ks

-- two numbers are the same, and the test says so, or it says that they are not
pub cases_int_eq : (k j : ℤ) → ((k ≡ j) × (int_eq k j ≡ true)) ⊎ (int_eq k j ≡ false)
cases_int_eq k j =
    elim (cases_Bool (int_eq k j)) [ inl t ↦ inl ((Decides-int_eq k j).0 t, t) | inr f ↦ inr f ]

-- two tests in turn
pub filter-both : {X : Type 0} (c d : X → Bool) (xs : List X) → filter (λ x. c x && d x) xs ≡ filter d (filter c xs)
filter-both c d [] = refl
filter-both c d (x ∷ xs) =
    elim (c x) as (λ b. cond (b && d x) (x ∷ filter (λ y. c y && d y) xs) (filter (λ y. c y && d y) xs)
    ≡ filter d (cond b (x ∷ filter c xs) (filter c xs)))
    [ true ↦ ap (λ rest. cond (d x) (x ∷ rest) rest) (filter-both c d xs) | false ↦ filter-both c d xs ]

-- a number stands in a filtered list where it passes and stood there
pub has-filter : (j : ℤ) (q : ℤ → Bool) (ks : List ℤ) → has j (filter q ks) ≡ (q j && has j ks)
has-filter j q ks = any-filter_same (λ k. int_eq k j) q (q j) (λ k same. ap q ((Decides-int_eq k j).0 same)) ks

once : (e d m n : Bool) → d ≡ e → m ≡ n → (e || (not d && m)) ≡ (e || n)
once true d m n s i = refl
once false true m n s i = absurd (true≢false s)
once false false m n s i = i

pub has-distinct : (j : ℤ) (ks : List ℤ) → has j (distinct ks) ≡ has j ks
has-distinct j [] = refl
has-distinct j (k ∷ ks) =
    ap (λ rest. int_eq k j || rest) (has-filter j (λ i. not (int_eq i k)) (distinct ks))
    ∙ once (int_eq k j) (int_eq j k) (has j (distinct ks)) (has j ks) (int_eq_equiv.symm j k) (has-distinct j ks)

new_last : (j : ℤ) (q : ℤ → Bool) (e h : Bool) → q j ≡ not e → filter q (cond h [] (j ∷ [])) ≡ cond (e || h) [] (j ∷ [])
new_last j q true true i = refl
new_last j q true false i = ap (λ b. cond b (j ∷ []) []) i
new_last j q false true i = refl
new_last j q false false i = ap (λ b. cond b (j ∷ []) []) i

-- one number more
pub distinct-push : (ks : List ℤ) (j : ℤ) → distinct (ks ++ j ∷ []) ≡ distinct ks ++ cond (has j ks) [] (j ∷ [])
distinct-push [] j = refl
distinct-push (k ∷ ks) j =
    let q : ℤ → Bool = λ i. not (int_eq i k) in
    ap (λ rest. k ∷ rest)
    (ap (filter q) (distinct-push ks j) ∙ filter-append q (distinct ks) (cond (has j ks) [] (j ∷ []))
    ∙ ap (λ rest. filter q (distinct ks) ++ rest) (new_last j q (int_eq k j) (has j ks) (ap not (int_eq_equiv.symm j k))))
