-- The live orders by their symbols and by their ids.
use Rattle.std.proofs.Common.{◌≡◌, ℕ, ◌==◌, Bool, true, false, cond, ◌||◌, List, [], ◌∷◌, ◌++◌, Some, None, Result, Ok, Err, refl, sym, ap, subst, ◌∙◌, arith, length, true≢false}
use Rattle.std.specs.Prelude.{not, nat_eq, unwrap_or, OnOk}
use Rattle.std.specs.Cmp.Lexicographic.{nat_list_eq_equiv}
use Rattle.std.specs.Map.{lookup}
use Rattle.std.proofs.lemmas.Bool.Decides.{nat_tests}
use Rattle.std.proofs.lemmas.List.{append-nil}
use Rattle.std.proofs.lemmas.List.Elements.{filter-append}
use Rattle.lean_orders.specs.declared.order.Resting.{Resting}
use Rattle.portfolio.specs.Symbols.{same_symbol}
use Rattle.clock_book.specs.Seen.{without_id}
use Rattle.backtest_core.specs.Mirror.{listed, of_symbol, of_id, has_symbol, Lists}

-- nothing is left under a key
listed-out : (old new : List (ℕ × List Resting)) (id k : ℕ) → lookup (nat_eq k) new ≡ cond (nat_eq id k) None (lookup (nat_eq k) old)
    → listed nat_eq new k ≡ cond (nat_eq id k) [] (listed nat_eq old k)
listed-out old new id k now = ap (λ x. unwrap_or x []) now ∙ by (nat_eq id k)
  where
    by : (b : Bool) → unwrap_or (cond b None (lookup (nat_eq k) old)) [] ≡ cond b [] (listed nat_eq old k)
    by true = refl
    by false = refl

-- ---- lists without the orders of an id

without-twice : (id : ℕ) (live : List Resting) → without_id id (without_id id live) ≡ without_id id live
without-twice id [] = refl
without-twice id (o ∷ live) = by (o.id == id) refl (without-twice id live)
  where
    by : (b : Bool) → (o.id == id) ≡ b → without_id id (without_id id live) ≡ without_id id live
        → without_id id (cond (not b) (o ∷ without_id id live) (without_id id live)) ≡ cond (not b) (o ∷ without_id id live) (without_id id live)
    by true is rest = rest
    by false is rest = ap (λ b. cond (not b) (o ∷ without_id id (without_id id live)) (without_id id (without_id id live))) is ∙ ap (λ xs. o ∷ xs) rest

without-symbol : (id : ℕ) (symbol : List ℕ) (live : List Resting) → without_id id (of_symbol symbol live) ≡ of_symbol symbol (without_id id live)
without-symbol id symbol [] = refl
without-symbol id symbol (o ∷ live) = by (o.id == id) (same_symbol symbol o.symbol) refl refl (without-symbol id symbol live)
  where
    by : (b c : Bool) → (o.id == id) ≡ b → same_symbol symbol o.symbol ≡ c → without_id id (of_symbol symbol live) ≡ of_symbol symbol (without_id id live)
        → without_id id (cond c (o ∷ of_symbol symbol live) (of_symbol symbol live)) ≡ of_symbol symbol (cond (not b) (o ∷ without_id id live) (without_id id live))
    by true true is same rest =
        ap (λ b. cond (not b) (o ∷ without_id id (of_symbol symbol live)) (without_id id (of_symbol symbol live))) is ∙ rest
    by true false is same rest = rest
    by false true is same rest =
        ap (λ b. cond (not b) (o ∷ without_id id (of_symbol symbol live)) (without_id id (of_symbol symbol live))) is
        ∙ ap (λ xs. o ∷ xs) rest
        ∙ sym (ap (λ c. cond c (o ∷ of_symbol symbol (without_id id live)) (of_symbol symbol (without_id id live))) same)
    by false false is same rest =
        rest ∙ sym (ap (λ c. cond c (o ∷ of_symbol symbol (without_id id live)) (of_symbol symbol (without_id id live))) same)

-- an id of no order of a symbol
without-other : (id : ℕ) (symbol : List ℕ) (live : List Resting) → has_symbol symbol (of_id id live) ≡ false
    → without_id id (of_symbol symbol live) ≡ of_symbol symbol live
without-other id symbol [] none = refl
without-other id symbol (o ∷ live) none = by (o.id == id) (same_symbol symbol o.symbol) refl refl none (without-other id symbol live)
  where
    by : (b c : Bool) → (o.id == id) ≡ b → same_symbol symbol o.symbol ≡ c → has_symbol symbol (cond b (o ∷ of_id id live) (of_id id live)) ≡ false
        → (has_symbol symbol (of_id id live) ≡ false → without_id id (of_symbol symbol live) ≡ of_symbol symbol live)
        → without_id id (cond c (o ∷ of_symbol symbol live) (of_symbol symbol live)) ≡ cond c (o ∷ of_symbol symbol live) (of_symbol symbol live)
    by true true is same none rest = absurd (true≢false (sym (ap (λ c. c || has_symbol symbol (of_id id live)) same) ∙ none))
    by true false is same none rest = rest (ap (λ c. c || has_symbol symbol (of_id id live)) (sym same) ∙ none)
    by false true is same none rest =
        ap (λ b. cond (not b) (o ∷ without_id id (of_symbol symbol live)) (without_id id (of_symbol symbol live))) is ∙ ap (λ xs. o ∷ xs) (rest none)
    by false false is same none rest = rest none

-- no order of an id
without-none : (id : ℕ) (live : List Resting) → of_id id live ≡ [] → without_id id live ≡ live
without-none id [] none = refl
without-none id (o ∷ live) none = by (o.id == id) none (without-none id live)
  where
    by : (b : Bool) → cond b (o ∷ of_id id live) (of_id id live) ≡ [] → (of_id id live ≡ [] → without_id id live ≡ live)
        → cond (not b) (o ∷ without_id id live) (without_id id live) ≡ o ∷ live
    by true none rest = absurd (omega (arith, ap length none))
    by false none rest = ap (λ xs. o ∷ xs) (rest none)

-- of the ids of what is left
of_id-without : (id k : ℕ) (live : List Resting) → of_id k (without_id id live) ≡ cond (nat_eq id k) [] (of_id k live)
of_id-without id k [] = by (nat_eq id k)
  where
    nothing : List Resting
    nothing = []

    by : (b : Bool) → nothing ≡ cond b nothing nothing
    by true = refl
    by false = refl
of_id-without id k (o ∷ live) = by (o.id == id) (o.id == k) (nat_eq id k) refl refl refl (of_id-without id k live)
  where
    by : (b c d : Bool) → (o.id == id) ≡ b → (o.id == k) ≡ c → nat_eq id k ≡ d → of_id k (without_id id live) ≡ cond d [] (of_id k live)
        → of_id k (cond (not b) (o ∷ without_id id live) (without_id id live)) ≡ cond d [] (cond c (o ∷ of_id k live) (of_id k live))
    by true c true is at same rest = rest
    by true false false is at same rest = rest
    by true true false is at same rest = absurd (both is at same)
      where
        both : (o.id == id) ≡ true → (o.id == k) ≡ true → nat_eq id k ≡ false → ⊥
        both is at same = grind (arith, nat_tests)
    by false false true is at same rest = ap (λ c. cond c (o ∷ of_id k (without_id id live)) (of_id k (without_id id live))) at ∙ rest
    by false true true is at same rest = absurd (both is at same)
      where
        both : (o.id == id) ≡ false → (o.id == k) ≡ true → nat_eq id k ≡ true → ⊥
        both is at same = grind (arith, nat_tests)
    by false true false is at same rest =
        ap (λ c. cond c (o ∷ of_id k (without_id id live)) (of_id k (without_id id live))) at ∙ ap (λ xs. o ∷ xs) rest
    by false false false is at same rest = ap (λ c. cond c (o ∷ of_id k (without_id id live)) (of_id k (without_id id live))) at ∙ rest

-- ---- the two lists as one

filter-one : (b : Bool) (xs : List Resting) (o : Resting) → cond b (xs ++ o ∷ []) xs ≡ xs ++ cond b (o ∷ []) []
filter-one true xs o = refl
filter-one false xs o = sym (append-nil xs)

pub lists-more : (symbols symbols' : List (List ℕ × List Resting)) (ids ids' : List (ℕ × List Resting)) (live : List Resting) (o : Resting)
    → ((s : List ℕ) → listed same_symbol symbols' s ≡ cond (same_symbol o.symbol s) (listed same_symbol symbols s ++ o ∷ []) (listed same_symbol symbols s))
    → ((k : ℕ) → listed nat_eq ids' k ≡ cond (nat_eq o.id k) (listed nat_eq ids k ++ o ∷ []) (listed nat_eq ids k))
    → Lists symbols ids live → Lists symbols' ids' (live ++ o ∷ [])
lists-more symbols symbols' ids ids' live o by_symbol by_id lists = record {
  symbols = λ s.
      by_symbol s
      ∙ ap (λ xs. cond (same_symbol o.symbol s) (xs ++ o ∷ []) xs) (lists.symbols s)
      ∙ ap (λ b. cond b (of_symbol s live ++ o ∷ []) (of_symbol s live)) (nat_list_eq_equiv.symm o.symbol s)
      ∙ filter-one (same_symbol s o.symbol) (of_symbol s live) o
      ∙ sym (filter-append (λ (order : Resting). same_symbol s order.symbol) live (o ∷ []));
  ids = λ k.
      by_id k
      ∙ ap (λ xs. cond (nat_eq o.id k) (xs ++ o ∷ []) xs) (lists.ids k)
      ∙ filter-one (nat_eq o.id k) (of_id k live) o
      ∙ sym (filter-append (λ (order : Resting). order.id == k) live (o ∷ []));
}

-- an id that no order has
pub lists-gone : (symbols : List (List ℕ × List Resting)) (ids ids' : List (ℕ × List Resting)) (live : List Resting) (id : ℕ)
    → ids' ≡ ids → lookup (nat_eq id) ids ≡ None → Lists symbols ids live → Lists symbols ids' (without_id id live)
lists-gone symbols ids ids' live id is none lists =
    subst (Lists symbols ids') (sym (without-none id live (sym (lists.ids id) ∙ ap (λ x. unwrap_or x []) none)))
    (subst (λ es. Lists symbols es live) (sym is) lists)

pub lists-less : (symbols symbols' : List (List ℕ × List Resting)) (ids ids' : List (ℕ × List Resting)) (live out : List Resting) (id : ℕ)
    → lookup (nat_eq id) ids ≡ Some out
    → ((s : List ℕ) → listed same_symbol symbols' s ≡ cond (has_symbol s out) (without_id id (listed same_symbol symbols s)) (listed same_symbol symbols s))
    → ((k : ℕ) → lookup (nat_eq k) ids' ≡ cond (nat_eq id k) None (lookup (nat_eq k) ids))
    → Lists symbols ids live → Lists symbols' ids' (without_id id live)
lists-less symbols symbols' ids ids' live out id found by_symbol by_id lists = record {
  symbols = λ s.
      by_symbol s
      ∙ ap (λ xs. cond (has_symbol s out) (without_id id xs) xs) (lists.symbols s)
      ∙ ap (λ xs. cond (has_symbol s xs) (without_id id (of_symbol s live)) (of_symbol s live)) out_is
      ∙ one s (has_symbol s (of_id id live)) refl
      ∙ without-symbol id s live;
  ids = λ k.
      listed-out ids ids' id k (by_id k)
      ∙ ap (λ xs. cond (nat_eq id k) [] xs) (lists.ids k)
      ∙ sym (of_id-without id k live);
}
  where
    out_is : out ≡ of_id id live
    out_is = sym (ap (λ x. unwrap_or x []) found) ∙ lists.ids id

    one : (s : List ℕ) (b : Bool) → has_symbol s (of_id id live) ≡ b → cond b (without_id id (of_symbol s live)) (of_symbol s live) ≡ without_id id (of_symbol s live)
    one s true has = refl
    one s false has = sym (without-other id s live has)

-- ---- one order of several that are taken out

pub out-next : (id : ℕ) (s symbol : List ℕ) (rest : Bool) (now new : List Resting)
    → new ≡ cond (same_symbol symbol s) (without_id id now) now
    → cond rest (without_id id new) new ≡ cond (same_symbol s symbol || rest) (without_id id now) now
out-next id s symbol rest now new is =
    ap (λ xs. cond rest (without_id id xs) xs) (is ∙ ap (λ b. cond b (without_id id now) now) (nat_list_eq_equiv.symm symbol s))
    ∙ by (same_symbol s symbol) rest
  where
    by : (b rest : Bool) → cond rest (without_id id (cond b (without_id id now) now)) (cond b (without_id id now) now) ≡ cond (b || rest) (without_id id now) now
    by true true = without-twice id now
    by true false = refl
    by false true = refl
    by false false = refl

pub on_ok : {A E : Type 0} (r : Result A E) {P Q : Type 0} → (P → Q) → OnOk r P → OnOk r Q
on_ok (Ok a) f h = f h
on_ok (Err e) f h = tt
