-- The first of what is left behind a place.
use Rattle.std.proofs.Common.{◌≡◌, ℕ, zero, suc, ◌+◌, ◌<◌, ◌≤◌, List, [], ◌∷◌, ◌++◌, drop, get_or, length, refl, ap, sym, ◌∙◌, arith, append_assoc}
use Rattle.std.proofs.lemmas.List.{drop_all, drop_more}
use Rattle.lean_orders.specs.declared.desk.Reply.{Reply}

shift : (n : ℕ) → suc n + 1 ≡ suc (n + 1)
shift n = omega arith

pub drop_next : (xs : List Reply) (n : ℕ) → drop (n + 1) xs ≡ drop 1 (drop n xs)
drop_next xs zero = refl
drop_next [] (suc n) = drop_all (suc n + 1) [] (omega arith)
drop_next (x ∷ xs) (suc n) = ap (λ k. drop k (x ∷ xs)) (shift n) ∙ drop_next xs n

pub next_is : (xs : List Reply) (n : ℕ) (d : Reply) → n < length xs → drop n xs ≡ get_or xs n d ∷ drop 1 (drop n xs)
next_is xs n d within = drop_more xs n d within ∙ ap (λ rest. get_or xs n d ∷ rest) (drop_next xs n)

drop_before : (xs ys : List Reply) (n : ℕ) → n ≤ length xs → drop n (xs ++ ys) ≡ drop n xs ++ ys
drop_before xs ys zero within = refl
drop_before [] ys (suc n) within = absurd (omega (arith, within))
drop_before (x ∷ xs) ys (suc n) within = drop_before xs ys n (omega (arith, within))

-- one more reply was taken, and is the last of those that are left
pub drop_moved : (rs xs taken taken' : List Reply) (n : ℕ) (r : Reply) → n ≤ length xs → taken' ≡ taken ++ r ∷ [] → taken ≡ rs ++ drop n xs
    → taken' ≡ rs ++ drop n (xs ++ r ∷ [])
drop_moved rs xs taken taken' n r within more before =
    more ∙ ap (λ x. x ++ r ∷ []) before ∙ append_assoc rs (drop n xs) (r ∷ []) ∙ ap (λ x. rs ++ x) (sym (drop_before xs (r ∷ []) n within))
