-- Runs of bytes, digits and entries of tables, as loops come to them.
use Rattle.std.proofs.Common.{◌≡◌, ℕ, zero, suc, ◌+◌, ◌-◌, ◌*◌, ◌^◌, ◌≤◌, ◌<◌, Bool, true, false, ◌&&◌, cond, nat_eq, if◌then◌else◌, List, [], ◌∷◌, length, get_or, take, drop, drop-cons, length-take, add-one, refl, ap, arith, inl, inr}
use Rattle.std.specs.List.{list_all, starts_with, prefix_len}
use lib.Pointwise.{pointwise}
use Rattle.std.specs.Borrow.{Bor}
use Rattle.std.proofs.lemmas.Bool.{cases_Bool, and_parts}
use Rattle.std.proofs.lemmas.Bool.Decides.{nat_tests}
use Rattle.std.proofs.lemmas.List.Folds.{list_all_at}
use Rattle.lean_fixed.specs.Digits.{is_digit}
use Rattle.std.proofs.lemmas.List.Sums.{prefix_len-drop_yes, prefix_len-drop_no, prefix_len-drop_all}
use Rattle.std.proofs.Math.Nat.{pow-suc, pow-le-pow_right}
use Rattle.rule_lang.specs.declared.token.Kind.{Kind}
use Rattle.rule_lang.specs.declared.token.Front.TheVariants.{Lexeme}
use Rattle.rule_lang.specs.Tokens.{table, lexeme_among}

one_more : (passes : Bool) {m n : ℕ} {all : Bool} → (m ≤ n → all ≡ true) → suc m ≤ cond passes (1 + n) 0 → (passes && all) ≡ true
one_more true rest h = rest (omega arith)
one_more false rest h = absurd (omega arith)

pub list_all-front : (p : ℕ → Bool) (xs : List ℕ) (i : ℕ) → i ≤ prefix_len p xs → list_all p (take i xs) ≡ true
list_all-front p xs zero h = refl
list_all-front p [] (suc i) h = refl
list_all-front p (x ∷ xs) (suc i) h = one_more (p x) (list_all-front p xs i) h

pub list_all-whole : (p : ℕ → Bool) (xs : List ℕ) → length xs ≤ prefix_len p xs → list_all p xs ≡ true
list_all-whole p [] h = refl
list_all-whole p (x ∷ xs) h = one_more (p x) (list_all-whole p xs) h

-- a table from an entry on
pub lexeme_among-drop : (test : List ℕ → Bool) (entries : List (Bor (List ℕ) × Kind)) (i : ℕ) (d : Bor (List ℕ) × Kind) → i < length entries → lexeme_among test (table (drop i entries)) ≡ (if test (get_or entries i d).0.now then Lexeme (get_or entries i d).1 (length (get_or entries i d).0.now) else lexeme_among test (table (drop (i + 1) entries)))
lexeme_among-drop test entries i d h = rw (add-one, drop-cons entries i d) refl

-- a text is no shorter than what it begins with
pointwise-length : (xs ys : List ℕ) → pointwise nat_eq xs ys ≡ true → length xs ≡ length ys
pointwise-length [] [] h = refl
pointwise-length [] (y ∷ ys) h = cc
pointwise-length (x ∷ xs) [] h = cc
pointwise-length (x ∷ xs) (y ∷ ys) h = ap suc (pointwise-length xs ys (and_parts (nat_eq x y) (pointwise nat_eq xs ys) h).1)

pub starts-within : (text start : List ℕ) → starts_with nat_eq text start ≡ true → length start ≤ length text
starts-within text start begins = omega (arith, length-take (length start) text, pointwise-length start (take (length start) text) begins)

-- one more digit
next_digit : (n b i : ℕ) → i < 18 → b - 48 ≤ 9 → n < 10 ^ i → (n * 10 < 2 ^ 64) × (n * 10 + (b - 48) < 2 ^ 64) × (n * 10 + (b - 48) < 10 ^ (i + 1))
next_digit n b i h digit small =
    let ten : 0 < 10 = omega arith in
    let most = pow-le-pow_right ten (let k : i ≤ 17 = omega arith in k) in
    let next : 10 ^ (i + 1) ≡ 10 ^ i * 10 = rw (add-one, pow-suc 10 i) refl in
    (omega arith, omega arith, omega arith)

passes_at : (p : ℕ → Bool) (xs : List ℕ) (i : ℕ) → list_all p xs ≡ true → i < length xs → p (get_or xs i 0) ≡ true
passes_at p xs i all here =
    elim (cases_Bool (p (get_or xs i 0))) [
      | inl passes ↦ passes
      | inr fails ↦ let stops = list_all_at p xs i 0 here fails in cc
    ]

pub value-next : (digits : List ℕ) (n i : ℕ) → list_all is_digit digits ≡ true → length digits ≤ 18 → i < length digits → n < 10 ^ i → (n * 10 < 2 ^ 64) × (48 ≤ get_or digits i 0) × (n * 10 + (get_or digits i 0 - 48) < 2 ^ 64) × (n * 10 + (get_or digits i 0 - 48) < 10 ^ (i + 1))
value-next digits n i all short here small =
    let digit = passes_at is_digit digits i all here in
    let range : (48 ≤ get_or digits i 0) × (get_or digits i 0 ≤ 57) = grind (arith, nat_tests, digit) in
    let next = next_digit n (get_or digits i 0) i (omega arith) (omega arith) small in
    (next.0, range.0, next.1, next.2)

pub ruleset runs = (prefix_len-drop_yes, prefix_len-drop_no, prefix_len-drop_all)

pub ruleset tables = (lexeme_among-drop, starts-within)

pub ruleset digits = (value-next)
