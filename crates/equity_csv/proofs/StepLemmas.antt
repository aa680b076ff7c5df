-- Digits that are read in one step from a place of a line.
use Rattle.std.proofs.Common.{◌≡◌, ℕ, ◌+◌, ◌-◌, ◌*◌, ◌%◌, ◌^◌, ◌<◌, ◌≤◌, ◌==◌, Bool, true, false, nat_le, List, [], ◌∷◌, length, get_or, take, drop, Option, Some, None, option_map, refl, sym, ap, ◌∙◌, suc, arith, length-drop}
use Rattle.std.specs.List.{list_all, prefix_len, slice_range}
use Rattle.std.specs.Str.Parse.{digits_value}
use Rattle.std.proofs.lemmas.Bool.Decides.{nat_tests}
use Rattle.std.proofs.lemmas.List.{take_all, drop-drop, drop-take, take-take, get_or-drop, length-take-le}
use Rattle.lean_fixed.specs.Digits.{is_digit, digits, value_of}
use Rattle.lean_fixed.specs.Fields.{fields, plain_number}
use Rattle.equity_csv.specs.Rows.{kept_if}
use Rattle.equity_csv.specs.Reading.{leading, first_of}
use Rattle.equity_csv.proofs.FieldLemmas.{with_more, fields-begin}
use Rattle.equity_csv.proofs.JoinLemmas.{fields-split}
use Rattle.equity_csv.proofs.DatedLemmas.{no_comma-digits}
use Rattle.equity_csv.proofs.ReadBackLemmas.{plain-digits, fields-alone}
use Rattle.equity_csv.proofs.PlainLemmas.{front-digits, plain-value}
use Rattle.equity_csv.proofs.TimeLemmas.{first_of-begun}

-- the digits at the front of a text are a plain number
pub record AreDigits (text : List ℕ) (count n : ℕ) : Type 0 where
  pub digits : list_all is_digit (take count text) ≡ true
  pub number : plain_number (take count text) ≡ Some n

are_digits : (text : List ℕ) (count n : ℕ) → count ≡ prefix_len is_digit text → count ≤ length text → 0 < count → count ≤ 18 → n ≡ digits_value 10 (take count text) % 2 ^ 64 → AreDigits text count n
are_digits text count n e within some few value =
    let all : list_all is_digit (take count text) ≡ true = rw e (front-digits text) in
    let long : length (take count text) ≡ count = length-take-le count text within in
    let v = plain-value (take count text) all (omega (arith, long)) in
    let same : value_of (take count text) ≡ n = sym (value ∙ v.1) in
    let nonempty : (length (take count text) == 0) ≡ false = grind (arith, nat_tests) in
    let small : nat_le (value_of (take count text)) (10 ^ 18) ≡ true = grind (arith, nat_tests, v.0) in
    let read : digits (take count text) ≡ Some n = rw (nonempty, all, small) (ap (λ x. Some x) same) in
    record { digits = all; number = plain-digits (take count text) n read }

-- what the reader of digits says of the digits from a place on, with nothing before them
value_at : (text : List ℕ) (at end n : ℕ) → n ≡ (0 * 10 ^ (end - at) + digits_value 10 (slice_range text at end)) % 2 ^ 64 → n ≡ digits_value 10 (take (end - at) (drop at text)) % 2 ^ 64
value_at text at end n e =
    let none : 0 * 10 ^ (end - at) + digits_value 10 (slice_range text at end) ≡ digits_value 10 (slice_range text at end) = omega arith in
    e ∙ ap (λ x. x % 2 ^ 64) none

-- the digits of a window of a line
in_window : (line : List ℕ) (at limit end n : ℕ) → at ≤ limit → limit < length line → limit ≤ at + 18
    → end ≡ at + prefix_len is_digit (drop at (take limit line)) → end ≤ length (take limit line)
    → n ≡ (0 * 10 ^ (end - at) + digits_value 10 (slice_range (take limit line) at end)) % 2 ^ 64 → at < end
    → AreDigits (drop at line) (end - at) n × (end ≤ limit)
in_window line at limit end n order within few e inside value some =
    let sum : at + (limit - at) ≡ limit = omega arith in
    let window : drop at (take limit line) ≡ take (limit - at) (drop at line) = ap (λ k. drop at (take k line)) (sym sum) ∙ drop-take at (limit - at) line in
    let size : length (take limit line) ≡ limit = length-take-le limit line (omega arith) in
    let behind : length (drop at line) ≡ length line - at = length-drop at line in
    let wide : length (take (limit - at) (drop at line)) ≡ limit - at = length-take-le (limit - at) (drop at line) (omega (arith, behind)) in
    let raw : end - at ≡ prefix_len is_digit (drop at (take limit line)) = omega (arith, e) in
    let count : end - at ≡ prefix_len is_digit (take (limit - at) (drop at line)) = rw window at raw in
    let valued : n ≡ digits_value 10 (take (end - at) (take (limit - at) (drop at line))) % 2 ^ 64 = rw window at (value_at (take limit line) at end n value) in
    let a = are_digits (take (limit - at) (drop at line)) (end - at) n count (omega (arith, wide, inside, size)) (omega arith) (omega (arith, inside, size)) valued in
    let same : take (end - at) (take (limit - at) (drop at line)) ≡ take (end - at) (drop at line) = take-take (end - at) (limit - at) (drop at line) (omega (arith, inside, size)) in
    (record { digits = rw same at a.digits; number = rw same at a.number }, omega (arith, inside, size))

-- a number in front of a comma
pub number_said : (line : List ℕ) (at limit end n : ℕ) → at ≤ limit → limit < length line → limit ≤ at + 18
    → end ≡ at + prefix_len is_digit (drop at (take limit line)) → end ≤ length (take limit line)
    → n ≡ (0 * 10 ^ (end - at) + digits_value 10 (slice_range (take limit line) at end)) % 2 ^ 64 → at < end
    → get_or line end 0 ≡ 44
    → first_of plain_number (fields (drop at line)) ≡ Some (with_more (fields (drop (end + 1) line)) n)
number_said line at limit end n order within few e inside value some comma =
    let w = in_window line at limit end n order within few e inside value some in
    let behind : length (drop at line) ≡ length line - at = length-drop at line in
    let sum : at + (end - at) ≡ end = omega arith in
    let here : get_or (drop at line) (end - at) 0 ≡ 44 = get_or-drop at line (end - at) 0 ∙ rw sum comma in
    let next : at + suc (end - at) ≡ end + 1 = omega arith in
    let rest : drop (suc (end - at)) (drop at line) ≡ drop (end + 1) line = drop-drop (suc (end - at)) at line ∙ ap (λ k. drop k line) next in
    let split : fields (drop at line) ≡ take (end - at) (drop at line) ∷ fields (drop (suc (end - at)) (drop at line)) = fields-split (drop at line) (end - at) (omega (arith, behind, w.1)) here (no_comma-digits (take (end - at) (drop at line)) w.0.digits) in
    ap (first_of plain_number) (split ∙ ap (λ t. take (end - at) (drop at line) ∷ fields t) rest)
    ∙ first_of-begun plain_number (take (end - at) (drop at line)) (fields (drop (end + 1) line)) n (fields-begin (drop (end + 1) line)) w.0.number

-- the digits up to the end of a line
pub last_said : (line : List ℕ) (at end n : ℕ) → at ≤ length line → end ≡ at + prefix_len is_digit (drop at line) → end ≡ length line
    → n ≡ (0 * 10 ^ (end - at) + digits_value 10 (slice_range line at end)) % 2 ^ 64 → at < end → end - at ≤ 18
    → leading plain_number (fields (drop at line)) ≡ Some (with_more [] n)
last_said line at end n within e whole value some few =
    let size : length (drop at line) ≡ length line - at = length-drop at line in
    let a = are_digits (drop at line) (end - at) n (omega (arith, e)) (omega (arith, size)) (omega arith) few (value_at line at end n value) in
    let all : take (end - at) (drop at line) ≡ drop at line = take_all (end - at) (drop at line) (omega (arith, size)) in
    let one : fields (drop at line) ≡ drop at line ∷ [] = fields-alone (drop at line) (rw all at (no_comma-digits (take (end - at) (drop at line)) a.digits)) in
    ap (leading plain_number) one ∙ ap (option_map (with_more [])) (rw all at a.number)

-- a reader that takes a plain number on
pub first_of-through : (read : List ℕ → Option ℕ) (all : List (List ℕ)) (n m : ℕ) (rest : List (List ℕ)) → first_of plain_number all ≡ Some (with_more rest n)
    → ((field : List ℕ) → plain_number field ≡ Some n → read field ≡ Some m) → first_of read all ≡ Some (with_more rest m)
first_of-through read [] n m rest e k = cc
first_of-through read (field ∷ []) n m rest e k = cc
first_of-through read (field ∷ next ∷ more) n m rest e k =
    elim (plain_number field) as (λ v. plain_number field ≡ v → option_map (with_more (next ∷ more)) v ≡ Some (with_more rest n) → option_map (with_more (next ∷ more)) (read field) ≡ Some (with_more rest m)) [
      | None ↦ λ p h. cc
      | Some v ↦ λ p h.
          let same : with_more (next ∷ more) v ≡ with_more rest n = cc in
          let number : v ≡ n = ap (λ (x : ℕ × List (List ℕ)). x.0) same in
          let behind : next ∷ more ≡ rest = ap (λ (x : ℕ × List (List ℕ)). x.1) same in
          ap (option_map (with_more (next ∷ more))) (k field (p ∙ ap (λ x. Some x) number)) ∙ ap (λ r. Some (with_more r m)) behind
    ] refl e

pub leading-through : (read : List ℕ → Option ℕ) (all : List (List ℕ)) (n m : ℕ) (rest : List (List ℕ)) → leading plain_number all ≡ Some (with_more rest n)
    → ((field : List ℕ) → plain_number field ≡ Some n → read field ≡ Some m) → leading read all ≡ Some (with_more rest m)
leading-through read [] n m rest e k = cc
leading-through read (field ∷ more) n m rest e k =
    elim (plain_number field) as (λ v. plain_number field ≡ v → option_map (with_more more) v ≡ Some (with_more rest n) → option_map (with_more more) (read field) ≡ Some (with_more rest m)) [
      | None ↦ λ p h. cc
      | Some v ↦ λ p h.
          let same : with_more more v ≡ with_more rest n = cc in
          let number : v ≡ n = ap (λ (x : ℕ × List (List ℕ)). x.0) same in
          let behind : more ≡ rest = ap (λ (x : ℕ × List (List ℕ)). x.1) same in
          ap (option_map (with_more more)) (k field (p ∙ ap (λ x. Some x) number)) ∙ ap (λ r. Some (with_more r m)) behind
    ] refl e

pub kept : (test : ℕ → Bool) (field : List ℕ) (n : ℕ) → test n ≡ true → plain_number field ≡ Some n → kept_if test (plain_number field) ≡ Some n
kept test field n t e = ap (kept_if test) e ∙ rw t refl
