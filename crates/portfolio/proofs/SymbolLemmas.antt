-- Sums over the symbols of a list.
use Rattle.std.proofs.Common.{◌≡◌, ℕ, ◌+◌, ◌≤◌, Bool, true, false, cond, not, ◌||◌, List, [], ◌∷◌, ◌++◌, filter, ℤ, pos, ◌+ℤ◌, ◌-ℤ◌, refl, sym, ap, ◌∙◌, true≢false, arith, if◌then◌else◌}
use Rattle.std.specs.Prelude.{unsigned_abs}
use Rattle.std.specs.Cmp.Lexicographic.{bytes_decides, nat_list_eq_equiv}
use Rattle.std.proofs.Math.Bool.{or-false, or-true}
use Rattle.std.proofs.lemmas.Int.{ints}
use Rattle.std.proofs.lemmas.List.Folds.{list_any-append}
use Rattle.portfolio.specs.Symbols.{same_symbol, is_among, sum_of, sum_of_each}
use Rattle.portfolio.proofs.Numbers.{abs_add_le}

pub same_is : (a b : List ℕ) → same_symbol a b ≡ true → a ≡ b
same_is a b h = (bytes_decides a b).0 h

pub same_self : (a : List ℕ) → same_symbol a a ≡ true
same_self a = nat_list_eq_equiv.refl a

pub same_turned : (a b : List ℕ) → same_symbol a b ≡ same_symbol b a
same_turned a b = nat_list_eq_equiv.symm a b

pub sum_of-append : {X : Type 0} (f : X → ℤ) (xs ys : List X) → sum_of f (xs ++ ys) ≡ sum_of f xs +ℤ sum_of f ys
sum_of-append f [] ys = omega (arith, ints)
sum_of-append f (x ∷ xs) ys = omega (arith, ints, sum_of-append f xs ys)

pub is_among-append : (s k : List ℕ) (xs : List (List ℕ)) → is_among s (xs ++ k ∷ []) ≡ (is_among s xs || same_symbol s k)
is_among-append s k xs = list_any-append (same_symbol s) xs (k ∷ []) ∙ ap (λ b. is_among s xs || b) (or-false (same_symbol s k))

-- a symbol that is the same as another is among the same symbols
pub among_same : (a b : List ℕ) (xs : List (List ℕ)) → same_symbol a b ≡ true → is_among a xs ≡ is_among b xs
among_same a b xs h = ap (λ s. is_among s xs) (same_is a b h)

-- the steps of the inductions below: `u` is whether x is among the later ones, `v` whether it is k, and `w` whether k is among the later ones
append_step : (u v w : Bool) (t more fx fk : ℤ) → (v ≡ true → (u ≡ w) × (fx ≡ fk)) → more ≡ t +ℤ (if w then pos 0 else fk)
    → (if u || v then more else fx +ℤ more) ≡ (if u then t else fx +ℤ t) +ℤ (if v || w then pos 0 else fk)
append_step true true true t more fx fk h e = e
append_step true true false t more fx fk h e = absurd (true≢false (h refl).0)
append_step true false w t more fx fk h e = e
append_step false true true t more fx fk h e = absurd (true≢false (sym (h refl).0))
append_step false true false t more fx fk h e = omega (arith, ints, e, (h refl).1)
append_step false false true t more fx fk h e = omega (arith, ints, e)
append_step false false false t more fx fk h e = omega (arith, ints, e)

change_step : (u v w : Bool) (sf sg fx gx fk gk : ℤ) → (v ≡ true → (u ≡ w) × (fx ≡ fk) × (gx ≡ gk)) → (v ≡ false → gx ≡ fx)
    → sg ≡ sf +ℤ (if w then gk -ℤ fk else pos 0)
    → (if u then sg else gx +ℤ sg) ≡ (if u then sf else fx +ℤ sf) +ℤ (if v || w then gk -ℤ fk else pos 0)
change_step true true true sf sg fx gx fk gk h k e = e
change_step true true false sf sg fx gx fk gk h k e = absurd (true≢false (h refl).0)
change_step true false w sf sg fx gx fk gk h k e = e
change_step false true true sf sg fx gx fk gk h k e = absurd (true≢false (sym (h refl).0))
change_step false true false sf sg fx gx fk gk h k e = omega (arith, ints, e, (h refl).1, (h refl).2)
change_step false false true sf sg fx gx fk gk h k e = omega (arith, ints, e, k refl)
change_step false false false sf sg fx gx fk gk h k e = omega (arith, ints, e, k refl)

without_step : (u w : Bool) (t less fx fk : ℤ) → less ≡ t -ℤ (if w then fk else pos 0)
    → (if u then less else fx +ℤ less) ≡ (if u then t else fx +ℤ t) -ℤ (if w then fk else pos 0)
without_step true w t less fx fk e = e
without_step false true t less fx fk e = omega (arith, ints, e)
without_step false false t less fx fk e = omega (arith, ints, e)

without_itself : (u w : Bool) (t less fx fk : ℤ) → u ≡ w → fx ≡ fk → less ≡ t -ℤ (if w then fk else pos 0) → less ≡ (if u then t else fx +ℤ t) -ℤ fk
without_itself true true t less fx fk h k e = e
without_itself true false t less fx fk h k e = absurd (true≢false h)
without_itself false true t less fx fk h k e = absurd (true≢false (sym h))
without_itself false false t less fx fk h k e = omega (arith, ints, e, k)

-- one symbol more at the end
pub each-append : (f : List ℕ → ℤ) (k : List ℕ) (xs : List (List ℕ))
    → sum_of_each f (xs ++ k ∷ []) ≡ sum_of_each f xs +ℤ (if is_among k xs then pos 0 else f k)
each-append f k [] = omega (arith, ints)
each-append f k (x ∷ xs) =
    rw (is_among-append x k xs, same_turned x k)
    (append_step (is_among x xs) (same_symbol k x) (is_among k xs) (sum_of_each f xs) (sum_of_each f (xs ++ k ∷ [])) (f x) (f k)
    (λ h. (sym (among_same k x xs h), ap f (sym (same_is k x h)))) (each-append f k xs))

-- another number of one symbol
pub each-change : (f g : List ℕ → ℤ) (k : List ℕ) → ((s : List ℕ) → same_symbol k s ≡ false → g s ≡ f s) → (xs : List (List ℕ))
    → sum_of_each g xs ≡ sum_of_each f xs +ℤ (if is_among k xs then g k -ℤ f k else pos 0)
each-change f g k h [] = refl
each-change f g k h (x ∷ xs) =
    change_step (is_among x xs) (same_symbol k x) (is_among k xs) (sum_of_each f xs) (sum_of_each g xs) (f x) (g x) (f k) (g k)
    (λ e. (sym (among_same k x xs e), ap f (sym (same_is k x e)), ap g (sym (same_is k x e)))) (h x) (each-change f g k h xs)

-- all but one symbol
others_more : (b : Bool) (x k y : List ℕ) (ys : List (List ℕ)) → same_symbol k x ≡ false → same_symbol k y ≡ b
    → is_among x (filter (λ other. not (same_symbol k other)) ys) ≡ is_among x ys
    → is_among x (cond (not (same_symbol k y)) (y ∷ filter (λ other. not (same_symbol k other)) ys) (filter (λ other. not (same_symbol k other)) ys))
    ≡ (same_symbol x y || is_among x ys)
others_more true x k y ys h e rest =
    let apart : same_symbol x y ≡ false = same_turned x y ∙ ap (λ s. same_symbol s x) (sym (same_is k y e)) ∙ h in
    rw (e, apart) rest
others_more false x k y ys h e rest = rw e (ap (λ b. same_symbol x y || b) rest)

among_others : (x k : List ℕ) → same_symbol k x ≡ false → (xs : List (List ℕ))
    → is_among x (filter (λ other. not (same_symbol k other)) xs) ≡ is_among x xs
among_others x k h [] = refl
among_others x k h (y ∷ ys) = others_more (same_symbol k y) x k y ys h refl (among_others x k h ys)

without_more : (b : Bool) (f : List ℕ → ℤ) (k x : List ℕ) (xs : List (List ℕ)) → same_symbol k x ≡ b
    → sum_of_each f (filter (λ other. not (same_symbol k other)) xs) ≡ sum_of_each f xs -ℤ (if is_among k xs then f k else pos 0)
    → sum_of_each f (cond (not (same_symbol k x)) (x ∷ filter (λ other. not (same_symbol k other)) xs) (filter (λ other. not (same_symbol k other)) xs))
    ≡ (if is_among x xs then sum_of_each f xs else f x +ℤ sum_of_each f xs) -ℤ (if same_symbol k x || is_among k xs then f k else pos 0)
without_more true f k x xs e rest =
    rw e
    (without_itself (is_among x xs) (is_among k xs) (sum_of_each f xs) (sum_of_each f (filter (λ other. not (same_symbol k other)) xs)) (f x) (f k)
    (sym (among_same k x xs e)) (ap f (sym (same_is k x e))) rest)
without_more false f k x xs e rest =
    rw (e, among_others x k e xs)
    (without_step (is_among x xs) (is_among k xs) (sum_of_each f xs) (sum_of_each f (filter (λ other. not (same_symbol k other)) xs)) (f x) (f k) rest)

pub each-without : (f : List ℕ → ℤ) (k : List ℕ) (xs : List (List ℕ))
    → sum_of_each f (filter (λ other. not (same_symbol k other)) xs) ≡ sum_of_each f xs -ℤ (if is_among k xs then f k else pos 0)
each-without f k [] = refl
each-without f k (x ∷ xs) = without_more (same_symbol k x) f k x xs refl (each-without f k xs)

-- what a symbol adds that may be new, where it adds nothing before
pub each-step : (f g : List ℕ → ℤ) (k : List ℕ) (xs : List (List ℕ)) → ((s : List ℕ) → same_symbol k s ≡ false → g s ≡ f s)
    → (is_among k xs ≡ false → f k ≡ pos 0)
    → sum_of_each g (xs ++ k ∷ []) ≡ sum_of_each f xs -ℤ f k +ℤ g k
each-step f g k xs h new =
    each-append g k xs ∙ step (is_among k xs) (sum_of_each f xs) (sum_of_each g xs) (f k) (g k) new (each-change f g k h xs)
  where
    step : (b : Bool) (sf sg fk gk : ℤ) → (b ≡ false → fk ≡ pos 0) → sg ≡ sf +ℤ (if b then gk -ℤ fk else pos 0)
        → sg +ℤ (if b then pos 0 else gk) ≡ sf -ℤ fk +ℤ gk
    step true sf sg fk gk n e = omega (arith, ints, e)
    step false sf sg fk gk n e = omega (arith, ints, e, n refl)

-- another number of a symbol that adds nothing where it is not there
pub each-same : (f g : List ℕ → ℤ) (k : List ℕ) (xs : List (List ℕ)) → ((s : List ℕ) → same_symbol k s ≡ false → g s ≡ f s)
    → (is_among k xs ≡ false → (f k ≡ pos 0) × (g k ≡ pos 0))
    → sum_of_each g xs ≡ sum_of_each f xs -ℤ f k +ℤ g k
each-same f g k xs h new = step (is_among k xs) (sum_of_each f xs) (sum_of_each g xs) (f k) (g k) new (each-change f g k h xs)
  where
    step : (b : Bool) (sf sg fk gk : ℤ) → (b ≡ false → (fk ≡ pos 0) × (gk ≡ pos 0)) → sg ≡ sf +ℤ (if b then gk -ℤ fk else pos 0)
        → sg ≡ sf -ℤ fk +ℤ gk
    step true sf sg fk gk n e = omega (arith, ints, e)
    step false sf sg fk gk n e = omega (arith, ints, e, (n refl).0, (n refl).1)

pub each-rest : (f : List ℕ → ℤ) (k : List ℕ) (xs : List (List ℕ)) → (is_among k xs ≡ false → f k ≡ pos 0)
    → sum_of_each f (filter (λ other. not (same_symbol k other)) xs) ≡ sum_of_each f xs -ℤ f k
each-rest f k xs new = each-without f k xs ∙ step (is_among k xs) (sum_of_each f xs) (f k) new
  where
    step : (b : Bool) (s fk : ℤ) → (b ≡ false → fk ≡ pos 0) → s -ℤ (if b then fk else pos 0) ≡ s -ℤ fk
    step true s fk n = refl
    step false s fk n = omega (arith, ints, n refl)

-- how large such a sum is
abbrev pub count_each : (List ℕ → ℕ) → List (List ℕ) → ℕ
count_each g [] = 0
count_each g (s ∷ rest) = if is_among s rest then count_each g rest else g s + count_each g rest

pub each_le : (f : List ℕ → ℤ) (g : List ℕ → ℕ) → ((s : List ℕ) → unsigned_abs (f s) ≤ g s) → (xs : List (List ℕ))
    → unsigned_abs (sum_of_each f xs) ≤ count_each g xs
each_le f g h [] = omega arith
each_le f g h (x ∷ xs) = step (is_among x xs) (sum_of_each f xs) (count_each g xs) (f x) (g x) (h x) (each_le f g h xs)
  where
    step : (b : Bool) (s : ℤ) (n : ℕ) (fx : ℤ) (gx : ℕ) → unsigned_abs fx ≤ gx → unsigned_abs s ≤ n
        → unsigned_abs (if b then s else fx +ℤ s) ≤ (if b then n else gx + n)
    step true s n fx gx l m = m
    step false s n fx gx l m = omega (arith, abs_add_le fx s)

-- a symbol that was added is there
pub among_added : (s : List ℕ) (xs : List (List ℕ)) → is_among s (xs ++ s ∷ []) ≡ true
among_added s xs = is_among-append s s xs ∙ ap (λ b. is_among s xs || b) (same_self s) ∙ or-true (is_among s xs)
