-- A field of at most eighteen digits and nothing else: the digits that a text begins with, up to its end or a comma.
use Rattle.std.proofs.Common.{◌≡◌, ℕ, ◌+◌, ◌-◌, ◌*◌, ◌%◌, ◌^◌, ◌<◌, ◌≤◌, ◌==◌, true, false, if◌then◌else◌, nat_le, List, [], ◌∷◌, length, get_or, take, drop, Some, option_map, refl, sym, ap, ◌∙◌, add-one, one-add, arith, suc}
use Rattle.std.specs.List.{list_all, prefix_len, slice_range}
use Rattle.std.specs.Char.{digit_value}
use Rattle.std.specs.Str.Parse.{AllDigits, digits_value, digits_value_after}
use Rattle.std.proofs.Math.Nat.{pow-le-pow_right, mod-eq_of_lt}
use Rattle.std.proofs.lemmas.Bool.Decides.{nat_tests}
use Rattle.std.proofs.lemmas.Int.Digits.{digits_value-lt}
use Rattle.std.proofs.lemmas.List.{take_all, drop_all, length-take-le}
use Rattle.lean_fixed.specs.Digits.{is_digit, digits, value_from, value_of}
use Rattle.lean_fixed.specs.Fields.{fields}
use Rattle.equity_csv.specs.Rows.{kept_if}
use Rattle.equity_csv.specs.Reading.{number_up_to, leading, fields_after}
use Rattle.equity_csv.proofs.FieldLemmas.{with_more, drop-begins}
use Rattle.equity_csv.proofs.JoinLemmas.{fields-split}
use Rattle.equity_csv.proofs.DatedLemmas.{no_comma-digits}
use Rattle.equity_csv.proofs.ReadBackLemmas.{plain-digits, fields-alone}

digit-value : (b : ℕ) → is_digit b ≡ true → digit_value b ≡ b - 48
digit-value b d = grind (arith, nat_tests)

digit-below : (b : ℕ) → is_digit b ≡ true → digit_value b < 10
digit-below b d = let low : b ≤ 57 = grind (arith, nat_tests) in omega (arith, digit-value b d)

value-same : (n : ℕ) (ds : List ℕ) → list_all is_digit ds ≡ true → digits_value_after 10 n ds ≡ value_from n ds
value-same n [] h = refl
value-same n (b ∷ ds) h =
    let here : is_digit b ≡ true = grind (arith, nat_tests) in
    let there : list_all is_digit ds ≡ true = grind (arith, nat_tests) in
    ap (λ d. digits_value_after 10 (n * 10 + d) ds) (digit-value b here) ∙ value-same (n * 10 + (b - 48)) ds there

all-digits : (ds : List ℕ) → list_all is_digit ds ≡ true → AllDigits 10 ds
all-digits [] h = tt
all-digits (b ∷ ds) h =
    let here : is_digit b ≡ true = grind (arith, nat_tests) in
    let there : list_all is_digit ds ≡ true = grind (arith, nat_tests) in
    (digit-below b here, all-digits ds there)

pub front-digits : (text : List ℕ) → list_all is_digit (take (prefix_len is_digit text) text) ≡ true
front-digits [] = refl
front-digits (b ∷ text) =
    elim (is_digit b) as (λ v. is_digit b ≡ v → list_all is_digit (take (if v then 1 + prefix_len is_digit text else 0) (b ∷ text)) ≡ true) [
      | true ↦ λ d. rw (one-add (prefix_len is_digit text)) (rw d (front-digits text))
      | false ↦ λ d. refl
    ] refl

-- the number of the digits, which is below 10^18 where they are at most eighteen
pub plain-value : (ds : List ℕ) → list_all is_digit ds ≡ true → length ds ≤ 18 → (value_of ds < 10 ^ 18) × (digits_value 10 ds % 2 ^ 64 ≡ value_of ds)
plain-value ds h k =
    let same : digits_value 10 ds ≡ value_of ds = value-same 0 ds h in
    let lt : digits_value 10 ds < 10 ^ length ds = digits_value-lt 10 ds (all-digits ds h) in
    let le : 10 ^ length ds ≤ 10 ^ 18 = pow-le-pow_right (omega arith) k in
    let small : value_of ds < 10 ^ 18 = omega (arith, same, lt, le) in
    (small, ap (λ v. v % 2 ^ 64) same ∙ mod-eq_of_lt (omega (arith, small)))

pub record IsPlain (text : List ℕ) (most end n : ℕ) : Type 0 where
  pub digits : list_all is_digit (take end text) ≡ true
  pub number : number_up_to most (take end text) ≡ Some n

pub plain : (text : List ℕ) (most end n : ℕ) → end ≡ prefix_len is_digit text → end ≤ length text → 0 < end → end ≤ 18 → n ≡ digits_value 10 (take end text) % 2 ^ 64 → n ≤ most → IsPlain text most end n
plain text most end n e within some few value h =
    let all : list_all is_digit (take end text) ≡ true = rw e (front-digits text) in
    let long : length (take end text) ≡ end = length-take-le end text within in
    let v = plain-value (take end text) all (omega (arith, long)) in
    let same : value_of (take end text) ≡ n = sym (value ∙ v.1) in
    let nonempty : (length (take end text) == 0) ≡ false = grind (arith, nat_tests) in
    let small : nat_le (value_of (take end text)) (10 ^ 18) ≡ true = grind (arith, nat_tests, v.0) in
    let read : digits (take end text) ≡ Some n = rw (nonempty, all, small) (ap (λ x. Some x) same) in
    let fits : nat_le n most ≡ true = grind (arith, nat_tests) in
    record { digits = all; number = ap (kept_if (λ x. nat_le x most)) (plain-digits (take end text) n read) ∙ rw fits refl }

-- up to the end of the text, and up to a comma
pub leading-whole : (text : List ℕ) (most end n : ℕ) → end ≡ length text → IsPlain text most end n → leading (number_up_to most) (fields text) ≡ Some (with_more (fields_after (drop end text)) n)
leading-whole text most end n e p =
    let whole : take end text ≡ text = take_all end text (omega (arith, e)) in
    let none : drop end text ≡ [] = drop_all end text (omega (arith, e)) in
    let one : fields text ≡ text ∷ [] = fields-alone text (rw whole at (no_comma-digits (take end text) p.digits)) in
    ap (leading (number_up_to most)) one
    ∙ ap (option_map (with_more [])) (rw whole at p.number)
    ∙ ap (λ x. Some (with_more (fields_after x) n)) (sym none)

pub leading-comma : (text : List ℕ) (most end n : ℕ) → end < length text → get_or text end 0 ≡ 44 → IsPlain text most end n → leading (number_up_to most) (fields text) ≡ Some (with_more (fields_after (drop end text)) n)
leading-comma text most end n within comma p =
    let more : fields text ≡ take end text ∷ fields (drop (suc end) text) = fields-split text end within comma (no_comma-digits (take end text) p.digits) in
    let behind : drop end text ≡ get_or text end 0 ∷ drop (end + 1) text = drop-begins text end within in
    ap (leading (number_up_to most)) more
    ∙ ap (option_map (with_more (fields (drop (suc end) text)))) p.number
    ∙ ap (λ x. Some (with_more x n)) (ap (λ k. fields (drop k text)) (sym (add-one end)) ∙ sym (ap fields_after behind))

-- what the reader of digits says from the front of a text
pub from_front : (text : List ℕ) (end n : ℕ) → n ≡ (0 * 10 ^ (end - 0) + digits_value 10 (slice_range text 0 end)) % 2 ^ 64 → n ≡ digits_value 10 (take end text) % 2 ^ 64
from_front text end n e =
    let all : end - 0 ≡ end = omega arith in
    let none : 0 * 10 ^ (end - 0) + digits_value 10 (slice_range text 0 end) ≡ digits_value 10 (slice_range text 0 end) = omega arith in
    e ∙ ap (λ x. x % 2 ^ 64) (none ∙ ap (λ k. digits_value 10 (take k text)) all)
