-- Texts in their plainest spelling are printed again as they were read.
use Rattle.std.proofs.Common.{◌≡◌, ℕ, ◌+◌, ◌-◌, ◌*◌, ◌/◌, ◌%◌, ◌^◌, ◌<◌, ◌≤◌, Bool, true, false, ◌==◌, sym, ◌&&◌, cond, List, ◌∷◌, ◌++◌, length, get_or, Option, Some, None, arith, refl, inl, inr, ap, ◌∙◌, rules}
use Rattle.std.specs.Fmt.{decimal}
use Rattle.std.specs.List.{list_all, position_or_len}
use Rattle.std.proofs.lemmas.Str.Parse.{IsNumeralModel, numerals_by_fold}
use Rattle.std.proofs.lemmas.Fmt.{decimal-digits_value, first_decimal, decimal_digit}
use Rattle.std.proofs.lemmas.List.{length-drop}
use Rattle.std.proofs.lemmas.List.Folds.{list_all_at}
use Rattle.std.proofs.lemmas.List.Sums.{passes_at_first, split_at_first}
use Rattle.std.proofs.lemmas.Bool.{eqb-true, cases_lt, and_parts}
use Rattle.std.proofs.lemmas.Bool.Decides.{nat_tests}
use Rattle.lean_fixed.specs.Digits.{is_digit, are_digits, value_of, value_from, digits}
use Rattle.lean_fixed.specs.Amount.{is_point, is_amount, dollars_of, places_of, units_of, amount}
use Rattle.lean_fixed.specs.Printed.{four_digits, units_text}
use Rattle.lean_fixed.specs.ReadBack.{has_no_leading_zero, number_of_text, amount_of_text}
use Rattle.lean_fixed.proofs.DigitsLemmas.{value_of-lt}
use Rattle.lean_fixed.proofs.PrintedLemmas.{four_digits-last}
use Rattle.lean_fixed.proofs.RoundTrips.{digits-decimal, decimal-spells, parts-amount, amount-units_text, four-back}

own : IsNumeralModel (λ ds. list_all is_digit ds ≡ true) (value_from 0)
own = numerals_by_fold _ (search (rules, nat_tests)) value_from (search rules)

-- what a number that was read tells of its text
digits-told : (text : List ℕ) (n : ℕ) → digits text ≡ Some n → (0 < length text) × (list_all is_digit text ≡ true) × (value_of text ≡ n) × (n ≤ 10 ^ 18)
digits-told text n e = grind (arith, nat_tests)

no_zero : (text : List ℕ) → has_no_leading_zero text ≡ true → get_or text 0 0 ≡ 48 → length text ≡ 1
no_zero text plain zero = grind (arith, nat_tests)

pub decimal-digits : (text : List ℕ) (n : ℕ) → has_no_leading_zero text ≡ true → digits text ≡ Some n → decimal n ≡ text
decimal-digits text n plain read =
    let told = digits-told text n read in
    rw told.2 at (decimal-digits_value own text told.1 told.0 (no_zero text plain) (omega (arith, told.2, told.3)))

pub decimal-number_of_text : (text : List ℕ) (n : ℕ) → number_of_text text ≡ Some n → decimal n ≡ text
decimal-number_of_text text n read =
    let told : (has_no_leading_zero text ≡ true) × (digits text ≡ Some n) = grind arith in
    decimal-digits text n told.0 told.1

plain-decimal : (n : ℕ) → n < 2 ^ 64 → has_no_leading_zero (decimal n) ≡ true
plain-decimal n small =
    elim (cases_lt 0 n) [
      | inl some ↦ let first = first_decimal n some small in grind (arith, nat_tests)
      | inr none ↦ let zero : n ≡ 0 = omega arith in rw (zero, decimal_digit 0 (omega arith)) refl
    ]

pub number_of_text-decimal : (n : ℕ) → n ≤ 10 ^ 18 → number_of_text (decimal n) ≡ Some n
number_of_text-decimal n small = rw (plain-decimal n (omega arith)) (digits-decimal n small)

kept : (a b : Bool) (read want : Option ℕ) → a ≡ true → b ≡ true → read ≡ want → cond (a && b) read None ≡ want
kept a b read want yes_a yes_b e = rw (yes_a, yes_b) e

-- an amount that was printed
pub amount_of_text-units_text : (n : ℕ) → n ≤ 10 ^ 20 → amount_of_text (units_text n) ≡ Some n
unfolding units_text
amount_of_text-units_text n small =
    let whole = decimal-spells (n / 10000) (omega arith) in
    let parts = parts-amount (decimal (n / 10000)) (four_digits n) whole.all in
    let text = decimal (n / 10000) ++ 46 ∷ four_digits n in
    kept (has_no_leading_zero (dollars_of text)) (length (places_of text) == 4) _ _ (rw parts.0 (plain-decimal (n / 10000) (omega arith))) (rw parts.1 refl) (amount-units_text n small)

guarded : (a b : Bool) (read : Option ℕ) (n : ℕ) → cond (a && b) read None ≡ Some n → (a ≡ true) × (b ≡ true) × (read ≡ Some n)
guarded a b read n e = grind arith

-- an amount with a point is made of what stands before it and behind it
record IsPointed (text : List ℕ) (n : ℕ) : Type 0 where
  pub whole : text ≡ dollars_of text ++ 46 ∷ places_of text
  pub dollars : list_all is_digit (dollars_of text) ≡ true
  pub some : 0 < length (dollars_of text)
  pub places : list_all is_digit (places_of text) ≡ true
  pub value : value_of (dollars_of text) * 10000 + value_of (places_of text) ≡ n
  pub most : n ≤ 10 ^ 20

amount-told : (text : List ℕ) (n : ℕ) → amount text ≡ Some n → (is_amount text ≡ true) × (units_of text ≡ n) × (n ≤ 10 ^ 20)
amount-told text n e = grind (arith, nat_tests)

point_at : (text : List ℕ) → length (places_of text) ≡ 4 → (position_or_len is_point text < length text) × (get_or text (position_or_len is_point text) 0 ≡ 46)
point_at text long =
    let at = position_or_len is_point text in
    let within : at < length text = omega (arith, length-drop (at + 1) text) in
    (within, eqb-true _ 46 (passes_at_first is_point text 0 within))

pointed-digits : (text : List ℕ) → length (places_of text) ≡ 4 → is_amount text ≡ true → (are_digits (dollars_of text) && are_digits (places_of text)) ≡ true
pointed-digits text long form =
    let is = point_at text long in
    let none : is_digit (get_or text (position_or_len is_point text) 0) ≡ false = rw is.1 refl in
    let whole : list_all is_digit text ≡ false = list_all_at is_digit text (position_or_len is_point text) 0 is.0 none in
    grind (arith, nat_tests)

is_pointed : (text : List ℕ) (n : ℕ) → length (places_of text) ≡ 4 → amount text ≡ Some n → IsPointed text n
is_pointed text n long read =
    let told = amount-told text n read in
    let is = point_at text long in
    let both = and_parts (are_digits (dollars_of text)) (are_digits (places_of text)) (pointed-digits text long told.0) in
    let one : 10 ^ (4 - length (places_of text)) ≡ 1 = rw long refl in
    record {
      whole = rw is.1 at (split_at_first is_point text 0 is.0);
      dollars = grind (arith, nat_tests);
      some = grind (arith, nat_tests);
      places = grind (arith, nat_tests);
      value = omega (arith, rw one at told.1);
      most = told.2;
    }

pub units_text-amount_of_text : (text : List ℕ) (n : ℕ) → amount_of_text text ≡ Some n → units_text n ≡ text
unfolding units_text
units_text-amount_of_text text n read =
    let told = guarded (has_no_leading_zero (dollars_of text)) (length (places_of text) == 4) (amount text) n read in
    let long : length (places_of text) ≡ 4 = eqb-true _ 4 told.1 in
    let is = is_pointed text n long told.2 in
    let few : value_of (places_of text) < 10000 = rw long at (value_of-lt (places_of text) is.places) in
    let whole : n / 10000 ≡ value_of (dollars_of text) = omega (arith, is.value) in
    let last : n % 10000 ≡ value_of (places_of text) = omega (arith, is.value) in
    let places : four_digits n ≡ places_of text = sym (four_digits-last n) ∙ (ap four_digits last ∙ four-back (places_of text) long is.places) in
    let dollars : decimal (value_of (dollars_of text)) ≡ dollars_of text = decimal-digits_value own (dollars_of text) is.dollars is.some (no_zero (dollars_of text) told.0) (omega (arith, is.value, is.most)) in
    rw (whole, dollars, places) (sym is.whole)
