-- Words that are different symbols, word by word.
use Rattle.std.proofs.Common.{◌≡◌, ℕ, ◌+◌, ◌<◌, ◌≤◌, Bool, true, false, List, [], ◌∷◌, ◌++◌, refl, sym, ap, ◌∙◌, inl, inr, length, get_or, take, drop, take-append-drop, arith, Option, Some, None}
use Rattle.std.specs.Prelude.{not, ◌&&◌, ◌||◌, bytes_eq, if◌then◌else◌, map, String, string_bytes}
use Rattle.std.specs.List.{list_any, list_all}
use Rattle.std.proofs.lemmas.Bool.{cases_Bool}
use Rattle.std.proofs.lemmas.List.{take_more}
use Rattle.std.proofs.Math.ListN.{get_or-map}
use Rattle.std.proofs.lemmas.List.Folds.{list_any-append, list_all_more, list_all_at}
use Rattle.std.specs.declared.alloc.Global.{Global}
use Rattle.lean_fixed.specs.Symbol.{is_symbol}
use Rattle.lean_top.specs.Command.{all_differ, word_and_workers}

regroup : (p q r s : Bool) → (not (p || (q || false)) && (r && not s)) ≡ ((not p && r) && not (q || s))
regroup true q r s = refl
regroup false true true s = refl
regroup false true false s = refl
regroup false false true s = refl
regroup false false false s = refl

pub all_differ-push : (xs : List (List ℕ)) (x : List ℕ) → all_differ (xs ++ x ∷ []) ≡ (all_differ xs && not (list_any (λ y. bytes_eq y x) xs))
all_differ-push [] x = refl
all_differ-push (a ∷ xs) x =
    rw (list_any-append (bytes_eq a) xs (x ∷ []), all_differ-push xs x)
    (regroup (list_any (bytes_eq a) xs) (bytes_eq a x) (all_differ xs) (list_any (λ y. bytes_eq y x) xs))

-- texts of which the first ones are not all different are not either
pub all_differ-front : (xs ys : List (List ℕ)) → all_differ xs ≡ false → all_differ (xs ++ ys) ≡ false
all_differ-front [] ys no' = cc
all_differ-front (a ∷ xs) ys no' = elim (cases_Bool (list_any (bytes_eq a) xs)) [
  | inl twice ↦ rw (list_any-append (bytes_eq a) xs ys, twice) refl
  | inr once ↦ (let later : all_differ xs ≡ false = rw once at no' in
      rw (all_differ-front xs ys later) (second (not (list_any (bytes_eq a) (xs ++ ys)))))
]
  where
    second : (b : Bool) → (b && false) ≡ false
    second true = refl
    second false = refl

-- the symbols that texts are, where all are and differ
abbrev pub symbols_if : List (List ℕ) → Option (List (List ℕ))
symbols_if texts = if list_all is_symbol texts && all_differ texts then Some texts else None

module _ (texts : List (List ℕ)) (i : ℕ) (x : List ℕ) (within : i < length texts) (is : x ≡ get_or texts i x) where
  pub more : take (i + 1) texts ≡ take i texts ++ x ∷ []
  more = take_more texts i x within ∙ ap (λ y. take i texts ++ y ∷ []) (sym is)

  all_more : list_all is_symbol (take (i + 1) texts) ≡ (list_all is_symbol (take i texts) && is_symbol x)
  all_more = list_all_more is_symbol texts i x within ∙ ap (λ y. list_all is_symbol (take i texts) && is_symbol y) (sym is)

  -- a word that is no symbol
  pub no_symbol : is_symbol x ≡ false → None ≡ symbols_if texts
  no_symbol no' =
      let whole : list_all is_symbol texts ≡ false = list_all_at is_symbol texts i x within (rw (← is) no') in
      rw whole refl

  -- a word that stands before
  pub stands_twice : list_any (λ y. bytes_eq y x) (take i texts) ≡ true → None ≡ symbols_if texts
  stands_twice twice =
      let front : all_differ (take (i + 1) texts) ≡ false = rw (more, all_differ-push (take i texts) x, twice) (second (all_differ (take i texts))) in
      let whole : all_differ texts ≡ false = rw (← take-append-drop (i + 1) texts) (all_differ-front (take (i + 1) texts) (drop (i + 1) texts) front) in
      rw whole (third (list_all is_symbol texts))
    where
      second : (b : Bool) → (b && not true) ≡ false
      second true = refl
      second false = refl

      third : (b : Bool) → None ≡ (if b && false then Some texts else None)
      third true = refl
      third false = refl

  -- one more symbol that differs from those before it
  pub differs_too : all_differ (take i texts) ≡ true → list_any (λ y. bytes_eq y x) (take i texts) ≡ false → all_differ (take (i + 1) texts) ≡ true
  differs_too before once = rw (more, all_differ-push (take i texts) x, before, once) refl

  pub symbol_too : list_all is_symbol (take i texts) ≡ true → is_symbol x ≡ true → list_all is_symbol (take (i + 1) texts) ≡ true
  symbol_too before yes' = rw (all_more, before, yes') refl

pub refused : (b : Bool) (x : List ℕ) → None ≡ (if b then Some x else None) → b ≡ false
refused true x e = cc
refused false x e = refl

pub accepted : (b : Bool) (x y : List ℕ) → Some y ≡ (if b then Some x else None) → (b ≡ true) × (y ≡ x)
accepted true x y e = (refl, cc)
accepted false x y e = cc

-- the text of the word at a place
pub text_at : (words : List (String Global)) (i : ℕ) (word : String Global) → word ≡ get_or words i word
    → string_bytes word ≡ get_or (map string_bytes words) i (string_bytes word)
text_at words i word is = ap string_bytes is ∙ sym (get_or-map string_bytes words i word)

-- more than three words
pub many_words : (words : List (String Global)) → 4 ≤ length words → None ≡ word_and_workers (map string_bytes words)
many_words [] lt = absurd (let none : ⊥ = omega (arith, lt) in none)
many_words (a ∷ []) lt = absurd (let none : ⊥ = omega (arith, lt) in none)
many_words (a ∷ b ∷ []) lt = absurd (let none : ⊥ = omega (arith, lt) in none)
many_words (a ∷ b ∷ c ∷ []) lt = absurd (let none : ⊥ = omega (arith, lt) in none)
many_words (a ∷ b ∷ c ∷ d ∷ words) lt = refl
