-- What a choice adds, and how it joins.
use Rattle.std.proofs.Common.{◌≡◌, ℕ, Bool, true, false, cond, not, ◌||◌, List, [], ◌∷◌, ◌++◌, All, refl, sym, ap, subst, ◌∙◌, append-nil, append_assoc}
use Rattle.std.specs.List.{AllByRecursion, IsDistinct, filter, list_any}
use Rattle.std.proofs.lemmas.Bool.{not-true, or_from}
use Rattle.std.proofs.lemmas.Cmp.{nat_list_eq_equiv}
use Rattle.std.proofs.lemmas.List.Elements.{All-weaker, filter_passes, recursion_from_All}
use Rattle.std.proofs.lemmas.List.Folds.{list_any-append}
use Rattle.universe_state.specs.Active.{Active, is_same, is_active}
use Rattle.universe_state.specs.Choice.{additions, each_once, marked}
use Rattle.universe_state.specs.Different.{symbols_of, with_all}
use Rattle.universe_state.proofs.Symbols.{Apart, kept, last}

abbrev Once : List (List ℕ) → Type 0
Once symbols = IsDistinct is_same symbols

apart-filter : (symbol : List ℕ) (p : List ℕ → Bool) (ts : List (List ℕ)) → Apart symbol ts → Apart symbol (filter p ts)
apart-filter symbol p [] apart = tt
apart-filter symbol p (t ∷ ts) apart =
    elim (p t) as (λ b. Apart symbol (cond b (t ∷ filter p ts) (filter p ts)))
    [ true ↦ (apart.0, apart-filter symbol p ts apart.1) | false ↦ apart-filter symbol p ts apart.1 ]

once-filter : (p : List ℕ → Bool) (ts : List (List ℕ)) → Once ts → Once (filter p ts)
unfolding IsDistinct
once-filter p [] once = tt
once-filter p (t ∷ ts) once =
    elim (p t) as (λ b. Once (cond b (t ∷ filter p ts) (filter p ts)))
    [ true ↦ (apart-filter t p ts once.0, once-filter p ts once.1) | false ↦ once-filter p ts once.1 ]

passed : (p : List ℕ → Bool) (ts : List (List ℕ)) → All (λ t. p t ≡ false) (filter (λ t. not (p t)) ts)
passed p ts =
    All-weaker (λ t. not (p t) ≡ true) (λ t. p t ≡ false) (λ t. not-true (p t)) (filter (λ t. not (p t)) ts) (filter_passes (λ t. not (p t)) ts)

pub each-once : (symbols : List (List ℕ)) → Once (each_once symbols)
unfolding IsDistinct
each-once [] = tt
each-once (s ∷ symbols) = (
  recursion_from_All (λ t. is_same s t ≡ false) (filter (λ t. not (is_same s t)) (each_once symbols)) (passed (is_same s) (each_once symbols)),
  once-filter (λ t. not (is_same s t)) (each_once symbols) (each-once symbols),
)

pub added-once : (symbols : List (List ℕ)) (u : List Active) → Once (additions symbols u)
added-once symbols u = once-filter (λ s. not (is_active u s)) (each_once symbols) (each-once symbols)

pub added-new : (symbols : List (List ℕ)) (u : List Active) → All (λ s. is_active u s ≡ false) (additions symbols u)
added-new symbols u = passed (is_active u) (each_once symbols)

all-pass : (s : List ℕ) (ts : List (List ℕ)) → Apart s ts → filter (λ t. not (is_same s t)) ts ≡ ts
all-pass s [] apart = refl
all-pass s (t ∷ ts) apart =
    ap (λ b. cond (not b) (t ∷ filter (λ r. not (is_same s r)) ts) (filter (λ r. not (is_same s r)) ts)) apart.0
    ∙ ap (λ rest. t ∷ rest) (all-pass s ts apart.1)

all-once : (symbols : List (List ℕ)) → Once symbols → each_once symbols ≡ symbols
unfolding IsDistinct
all-once [] once = refl
all-once (s ∷ symbols) once =
    ap (λ rest. s ∷ filter (λ t. not (is_same s t)) rest) (all-once symbols once.1) ∙ ap (λ rest. s ∷ rest) (all-pass s symbols once.0)

pub added-all : (symbols : List (List ℕ)) (u : List Active) → Once symbols → additions symbols u ≡ filter (λ s. not (is_active u s)) symbols
added-all symbols u once = ap (filter (λ s. not (is_active u s))) (all-once symbols once)

-- none of these symbols is active
abbrev New : List Active → List (List ℕ) → Type 0
New u symbols = AllByRecursion (λ s. is_active u s ≡ false) symbols

still-new : (u : List Active) (a : Active) (symbols : List (List ℕ)) → Apart a.symbol symbols → New u symbols → New (u ++ a ∷ []) symbols
still-new u a [] apart new = tt
still-new u a (s ∷ symbols) apart new = (
  list_any-append (λ x. is_same s x.symbol) u (a ∷ [])
      ∙ or_from _ _ new.0 (or_from _ _ (nat_list_eq_equiv.symm s a.symbol ∙ apart.0) refl),
  still-new u a symbols apart.1 new.1,
)

joins : (added u : List Active) → Once (symbols_of added) → New u (symbols_of added) → with_all added u ≡ u ++ added
unfolding IsDistinct
joins [] u once new = sym (append-nil u)
joins (a ∷ added) u once new =
    ap (with_all added) (last a u new.0)
    ∙ joins added (u ++ a ∷ []) once.1 (still-new u a (symbols_of added) once.0 new.1)
    ∙ append_assoc u (a ∷ []) added

same-active : (u v : List Active) (s : List ℕ) → symbols_of u ≡ symbols_of v → is_active u s ≡ is_active v s
same-active u v s same = by_symbols s u ∙ ap (list_any (is_same s)) same ∙ sym (by_symbols s v)
  where
    by_symbols : (s : List ℕ) (u : List Active) → is_active u s ≡ list_any (is_same s) (symbols_of u)
    by_symbols s [] = refl
    by_symbols s (first ∷ u) = ap (λ rest. is_same s first.symbol || rest) (by_symbols s u)

pub joined : (symbols : List (List ℕ)) (u added : List Active) → symbols_of added ≡ additions symbols u
    → with_all added (marked symbols u) ≡ marked symbols u ++ added
joined symbols u added are =
    joins added (marked symbols u) (subst Once (sym are) (added-once symbols u))
    (subst (New (marked symbols u)) (sym are)
    (recursion_from_All (λ s. is_active (marked symbols u) s ≡ false) (additions symbols u)
    (All-weaker (λ s. is_active u s ≡ false) (λ s. is_active (marked symbols u) s ≡ false)
    (λ s new. same-active (marked symbols u) u s (kept symbols u) ∙ new) (additions symbols u) (added-new symbols u))))
