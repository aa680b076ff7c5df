-- A symbol more among those that are held.
use Rattle.std.proofs.Common.{◌≡◌, ℕ, ◌+◌, ◌<◌, List, [], ◌∷◌, ◌++◌, Bool, true, false, refl, ap, sym, ◌∙◌}
use Rattle.std.specs.Prelude.{cond, map, filter, fold, take, length, get_or}
use Rattle.std.specs.Cmp.Lexicographic.{slice_cmp}
use Rattle.std.specs.Ordering.{match_ordering, nat_cmp}
use Rattle.std.specs.BTreeSet.{insert_key}
use Rattle.std.proofs.lemmas.List.{append-nil, append_assoc, map_push, take_more}
use Rattle.std.proofs.lemmas.List.Elements.{filter-append}
use Rattle.clock_run.specs.Summary.{placed}

pub placed-inserted : (symbols : List (List ℕ)) (symbol : List ℕ) → placed symbols symbol ≡ insert_key (slice_cmp nat_cmp) symbols symbol
placed-inserted [] symbol = refl
placed-inserted (first ∷ symbols) symbol =
    ap (λ later. match_ordering (slice_cmp nat_cmp symbol first) (symbol ∷ first ∷ symbols) (first ∷ symbols) (first ∷ later))
    (placed-inserted symbols symbol)

fold-push : {A B : Type 0} (f : B → A → B) (z : B) (xs : List A) (x : A) → fold f z (xs ++ x ∷ []) ≡ f (fold f z xs) x
fold-push f z [] x = refl
fold-push f z (y ∷ xs) x = fold-push f (f z y) xs x

module _ {X : Type 0} (p : List ℕ → Bool) (symbol_of : X → List ℕ) where
  -- the symbols that pass, in their order
  abbrev pub passing : List X → List (List ℕ)
  passing xs = fold placed [] (filter p (map symbol_of xs))

  passing-push : (xs : List X) (x : X) → passing (xs ++ x ∷ []) ≡ cond (p (symbol_of x)) (placed (passing xs) (symbol_of x)) (passing xs)
  passing-push xs x =
      ap (λ ss. fold placed [] (filter p ss)) (map_push symbol_of xs x)
      ∙ (ap (fold placed []) (filter-append p (map symbol_of xs) (symbol_of x ∷ []))
      ∙ by (p (symbol_of x)))
    where
      by : (b : Bool) → fold placed [] (filter p (map symbol_of xs) ++ cond b (symbol_of x ∷ []) [])
          ≡ cond b (placed (passing xs) (symbol_of x)) (passing xs)
      by true = fold-push placed [] (filter p (map symbol_of xs)) (symbol_of x)
      by false = ap (fold placed []) (append-nil (filter p (map symbol_of xs)))

  pub passing-more : (xs : List X) (i : ℕ) (d : X) → i < length xs
      → passing (take (i + 1) xs) ≡ cond (p (symbol_of (get_or xs i d))) (placed (passing (take i xs)) (symbol_of (get_or xs i d))) (passing (take i xs))
  passing-more xs i d lt = ap passing (take_more xs i d lt) ∙ passing-push (take i xs) (get_or xs i d)

-- the keys behind one more item, which passes or not
pub keys-held : {X : Type 0} (p : List ℕ → Bool) (symbol_of : X → List ℕ) (xs : List X) (i : ℕ) (x : X) (before now : List (List ℕ))
    → i < length xs → x ≡ get_or xs i x → before ≡ passing p symbol_of (take i xs) → p (symbol_of x) ≡ true
    → now ≡ insert_key (slice_cmp nat_cmp) before (symbol_of x) → now ≡ passing p symbol_of (take (i + 1) xs)
keys-held p symbol_of xs i x before now lt item keys passes is =
    is
    ∙ (sym (placed-inserted before (symbol_of x))
    ∙ (ap (λ ks. placed ks (symbol_of x)) keys
    ∙ (ap (λ b. cond b (placed (passing p symbol_of (take i xs)) (symbol_of x)) (passing p symbol_of (take i xs))) (sym passes)
    ∙ (ap (λ y. cond (p (symbol_of y)) (placed (passing p symbol_of (take i xs)) (symbol_of y)) (passing p symbol_of (take i xs))) item
    ∙ sym (passing-more p symbol_of xs i x lt)))))

pub keys-passed : {X : Type 0} (p : List ℕ → Bool) (symbol_of : X → List ℕ) (xs : List X) (i : ℕ) (x : X) (before now : List (List ℕ))
    → i < length xs → x ≡ get_or xs i x → before ≡ passing p symbol_of (take i xs) → p (symbol_of x) ≡ false
    → now ≡ before → now ≡ passing p symbol_of (take (i + 1) xs)
keys-passed p symbol_of xs i x before now lt item keys fails is =
    is
    ∙ (keys
    ∙ (ap (λ b. cond b (placed (passing p symbol_of (take i xs)) (symbol_of x)) (passing p symbol_of (take i xs))) (sym fails)
    ∙ (ap (λ y. cond (p (symbol_of y)) (placed (passing p symbol_of (take i xs)) (symbol_of y)) (passing p symbol_of (take i xs))) item
    ∙ sym (passing-more p symbol_of xs i x lt))))

-- the pieces of an account behind others
pub pieces : {A : Type 0} (a f r c e d : List A) → a ++ ((((f ++ r) ++ c) ++ e) ++ d) ≡ ((((a ++ f) ++ r) ++ c) ++ e) ++ d
pieces a f r c e d =
    sym (append_assoc a (((f ++ r) ++ c) ++ e) d)
    ∙ ap (λ x. x ++ d)
    (sym (append_assoc a ((f ++ r) ++ c) e)
    ∙ ap (λ x. x ++ e)
    (sym (append_assoc a (f ++ r) c)
    ∙ ap (λ x. x ++ c) (sym (append_assoc a f r))))
