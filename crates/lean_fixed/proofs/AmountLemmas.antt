-- An amount by the parts before and behind its point.
use Rattle.std.proofs.Common.{◌≡◌, ℕ, zero, suc, ◌+◌, ◌-◌, ◌*◌, ◌^◌, ◌<◌, ◌≤◌, true, false, ◌&&◌, nat_le, List, length, take, drop, get_or, Some, arith, refl}
use Rattle.std.specs.List.{position, position_or_len}
use Rattle.std.proofs.lemmas.List.Folds.{list_all_at}
use Rattle.std.proofs.lemmas.List.Sums.{passes_at_first}
use Rattle.std.proofs.lemmas.Bool.{and_right}
use Rattle.std.proofs.lemmas.Bool.Decides.{nat_tests}
use Rattle.lean_fixed.specs.Digits.{is_digit, are_digits}
use Rattle.lean_fixed.specs.Amount.{is_point, is_amount}

point_is : (bytes : List ℕ) (at : ℕ) → position is_point bytes ≡ Some at → (position_or_len is_point bytes ≡ at) × (at < length bytes)
point_is bytes at some = grind (arith, nat_tests)

-- behind a point stand one to four digits
pub places-scaled : (value places : ℕ) → places ≤ 4 → value < 10 ^ places → value * 10 ^ (4 - places) < 10000
places-scaled value zero h small = omega arith
places-scaled value (suc zero) h small = omega arith
places-scaled value (suc (suc zero)) h small = omega arith
places-scaled value (suc (suc (suc zero))) h small = omega arith
places-scaled value (suc (suc (suc (suc zero)))) h small = omega arith
places-scaled value (suc (suc (suc (suc (suc places))))) h small = absurd (omega arith)

-- with a point the whole is not digits alone, and its parts decide
pub is_amount-point : (bytes : List ℕ) (at : ℕ) → position is_point bytes ≡ Some at → is_amount bytes ≡ (are_digits (take at bytes) && are_digits (drop (at + 1) bytes) && nat_le (length (drop (at + 1) bytes)) 4)
is_amount-point bytes at some =
    let is = point_is bytes at some in
    let here : is_point (get_or bytes at 0) ≡ true = rw is.0 at (passes_at_first is_point bytes 0 (rw is.0 is.1)) in
    let none : is_digit (get_or bytes at 0) ≡ false = grind (arith, nat_tests) in
    let whole : are_digits bytes ≡ false = and_right _ _ (list_all_at is_digit bytes at 0 is.1 none) in
    rw (whole, is.0) refl
