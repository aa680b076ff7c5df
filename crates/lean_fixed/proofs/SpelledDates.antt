-- The number of the day that eight digits spell, from the numbers that their parts spell.
use Rattle.std.proofs.Common.{◌≡◌, ℕ, ◌≤◌, true, cond, ◌&&◌, List, length, take, drop, Some, None, arith, sym, ap}
use Rattle.std.specs.List.{list_all}
use Rattle.std.proofs.lemmas.List.{take-append-drop, drop-drop, take_all, length-drop}
use Rattle.std.proofs.lemmas.List.Folds.{list_all-append}
use Rattle.lean_fixed.specs.Digits.{is_digit, digits}
use Rattle.lean_fixed.proofs.DigitsLemmas.{digits-tell}
use Rattle.lean_fixed.specs.Calendar.{Civil, is_civil, day_number, spelled, day_of_digits}

-- all bytes pass where those before a place and those from it on do
pub split_at : (n : ℕ) (bytes : List ℕ) → list_all is_digit bytes ≡ (list_all is_digit (take n bytes) && list_all is_digit (drop n bytes))
split_at n bytes = rw (list_all-append is_digit (take n bytes) (drop n bytes)) at (ap (list_all is_digit) (sym (take-append-drop n bytes)))

pub day_of_digits-parts : (bytes : List ℕ) (y m d : ℕ) → length bytes ≡ 8 → digits (take 4 bytes) ≡ Some y → digits (take 2 (drop 4 bytes)) ≡ Some m → digits (take 2 (drop 6 bytes)) ≡ Some d → day_of_digits bytes ≡ cond (is_civil (record { year = y; month = m; day = d })) (Some (day_number (record { year = y; month = m; day = d }))) None
day_of_digits-parts bytes y m d long year month day =
    let in_year = digits-tell (take 4 bytes) y year in
    let in_month = digits-tell (take 2 (drop 4 bytes)) m month in
    let in_day = digits-tell (take 2 (drop 6 bytes)) d day in
    let short : length (drop 6 bytes) ≤ 2 = omega (arith, length-drop 6 bytes) in
    let all : list_all is_digit bytes ≡ true = rw (split_at 4 bytes, in_year.0, split_at 2 (drop 4 bytes), in_month.0, drop-drop 2 4 bytes, ← take_all 2 (drop 6 bytes) short) in_day.0 in
    let same : spelled bytes ≡ record { year = y; month = m; day = d } = λ i. record { year = in_year.1 i; month = in_month.1 i; day = in_day.1 i } in
    rw (long, all) (ap (λ (date : Civil). cond (is_civil date) (Some (day_number date)) None) same)
