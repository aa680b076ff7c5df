-- What is printed is read back as the same value.
use Rattle.std.proofs.Common.{◌≡◌, ℕ, ◌+◌, ◌/◌, ◌%◌, ◌^◌, ◌<◌, ◌≤◌, Bool, true, false, ◌==◌, sym, take, drop, append_assoc, ◌&&◌, nat_le, cond, List, [], ◌∷◌, ◌++◌, length, Option, Some, None, pos, arith, refl, ap, ◌∙◌, length-append}
use Rattle.std.specs.Fmt.{decimal}
use Rattle.std.specs.List.{list_all, position_or_len, before_first, after_first}
use Rattle.std.proofs.Math.Seq.{take-append_seam, drop-append-add}
use Rattle.std.proofs.lemmas.Fmt.{decimal_by_steps}
use Rattle.std.proofs.lemmas.List.Sums.{fold-append}
use Rattle.std.proofs.lemmas.List.Folds.{list_all-append}
use Rattle.std.proofs.lemmas.Bool.{eqb-true, le-leb, and_from, and_parts, or_right}
use Rattle.std.proofs.lemmas.Bool.Decides.{nat_tests}
use Rattle.lean_fixed.specs.Digits.{is_digit, are_digits, value_of, digits}
use Rattle.lean_fixed.specs.Fields.{plain_number}
use Rattle.lean_fixed.specs.Amount.{is_point, is_amount, units_of, dollars_of, places_of, amount}
use Rattle.lean_fixed.specs.Calendar.{Civil, is_civil, day_number, spelled, day_of_digits, civil_of, last_day}
use Rattle.lean_fixed.specs.Printed.{two_digits, four_digits, units_text, date_text, day_text}
use Rattle.std.proofs.lemmas.List.{take-append-drop, drop-drop, take_all, drop_all, length-drop, length-take-le}
use Rattle.lean_fixed.proofs.SpelledDates.{split_at}
use Rattle.lean_fixed.proofs.CalendarWalk.{day_number-last, IsDateOf, civil_of-is, civil_of-year, civil_of-number}
use Rattle.jiff_core.specs.Calendar.{days_in_month}
use Rattle.jiff_core.proofs.CalendarLemmas.{days_in_month_bounds}

-- the bytes are one or more digits that stand for n
pub record IsSpelling (n : ℕ) (bytes : List ℕ) : Type 0 where
  pub some : 0 < length bytes
  pub all : list_all is_digit bytes ≡ true
  pub value : value_of bytes ≡ n

digit_range : (b : ℕ) → is_digit b ≡ true → (48 ≤ b) × (b ≤ 57)
digit_range b digit = grind (arith, nat_tests)

pub is_digit-last : (n : ℕ) → is_digit (48 + n % 10) ≡ true
is_digit-last n = grind (arith, nat_tests)

one_digit : (n : ℕ) → n < 10 → IsSpelling n ((48 + n) ∷ [])
one_digit n small = record { some = omega arith; all = grind (arith, nat_tests); value = omega arith }

one_more : (n : ℕ) (front : List ℕ) → 10 ≤ n → IsSpelling (n / 10) front → IsSpelling n (front ++ (48 + n % 10) ∷ [])
one_more n front more is =
    let last : list_all is_digit ((48 + n % 10) ∷ []) ≡ true = and_from _ _ (is_digit-last n) refl in
    record {
      some = omega (arith, length-append front ((48 + n % 10) ∷ []));
      all = list_all-append is_digit front ((48 + n % 10) ∷ []) ∙ and_from _ _ is.all last;
      value = rw (fold-append, is.value) (omega arith);
    }

pub decimal-spells : (n : ℕ) → n < 2 ^ 64 → IsSpelling n (decimal n)
decimal-spells n small = decimal_by_steps IsSpelling one_digit one_more n small

are_digits-spelling : (n : ℕ) (bytes : List ℕ) → IsSpelling n bytes → are_digits bytes ≡ true
are_digits-spelling n bytes is = let all = is.all in let some = is.some in grind (arith, nat_tests)

pub digits-decimal : (n : ℕ) → n ≤ 10 ^ 18 → digits (decimal n) ≡ Some n
digits-decimal n small =
    let is = decimal-spells n (omega arith) in
    rw (are_digits-spelling n (decimal n) is, is.value, le-leb n (10 ^ 18) small) refl

-- four digits stand for the last four of the number
four_digits-spell : (n : ℕ) → (list_all is_digit (four_digits n) ≡ true) × (value_of (four_digits n) ≡ n % 10000)
four_digits-spell n =
    let value : value_of (four_digits n) ≡ n % 10000 = omega arith in
    (and_from _ _ (is_digit-last (n / 100 / 10)) (and_from _ _ (is_digit-last (n / 100)) (and_from _ _ (is_digit-last (n / 10)) (and_from _ _ (is_digit-last n) refl))), value)

two_digits-spell : (n : ℕ) → (list_all is_digit (two_digits n) ≡ true) × (value_of (two_digits n) ≡ n % 100)
two_digits-spell n =
    let value : value_of (two_digits n) ≡ n % 100 = omega arith in
    (and_from _ _ (is_digit-last (n / 10)) (and_from _ _ (is_digit-last n) refl), value)

-- digits alone have no point
no_point : (bytes : List ℕ) → list_all is_digit bytes ≡ true → position_or_len is_point bytes ≡ length bytes
no_point [] all = refl
no_point (b ∷ bytes) all =
    let both = and_parts (is_digit b) (list_all is_digit bytes) all in
    let none : is_point b ≡ false = grind (arith, nat_tests) in
    rw (none, no_point bytes both.1) (omega arith)

pub plain_number-decimal : (n : ℕ) → n ≤ 10 ^ 18 → plain_number (decimal n) ≡ Some n
plain_number-decimal n small =
    let is = decimal-spells n (omega arith) in
    let front : before_first is_point (decimal n) ≡ decimal n = rw (no_point (decimal n) is.all) (take_all (length (decimal n)) (decimal n) (omega arith)) in
    let behind : after_first is_point (decimal n) ≡ [] = rw (no_point (decimal n) is.all) (drop_all (length (decimal n) + 1) (decimal n) (omega arith)) in
    rw (behind, front) (digits-decimal n small)

-- the first point behind digits stands right behind them
point-behind : (front rest : List ℕ) → list_all is_digit front ≡ true → position_or_len is_point (front ++ 46 ∷ rest) ≡ length front
point-behind [] rest all = refl
point-behind (b ∷ front) rest all =
    let both = and_parts (is_digit b) (list_all is_digit front) all in
    let none : is_point b ≡ false = grind (arith, nat_tests) in
    rw (none, point-behind front rest both.1) (omega arith)

pub parts-amount : (front : List ℕ) (rest : List ℕ) → list_all is_digit front ≡ true → (dollars_of (front ++ 46 ∷ rest) ≡ front) × (places_of (front ++ 46 ∷ rest) ≡ rest)
parts-amount front rest all =
    rw (point-behind front rest all) (take-append_seam front (46 ∷ rest), drop-append-add front (46 ∷ rest) 1)

pub amount-units_text : (n : ℕ) → n ≤ 10 ^ 20 → amount (units_text n) ≡ Some n
unfolding units_text
amount-units_text n small =
    let whole = decimal-spells (n / 10000) (omega arith) in
    let behind = four_digits-spell n in
    let parts = parts-amount (decimal (n / 10000)) (four_digits n) whole.all in
    let text = decimal (n / 10000) ++ 46 ∷ four_digits n in
    let pointed : (are_digits (dollars_of text) && are_digits (places_of text) && nat_le (length (places_of text)) 4) ≡ true = rw (parts.0, parts.1, are_digits-spelling (n / 10000) (decimal (n / 10000)) whole, behind.0) refl in
    let form : is_amount text ≡ true = or_right (are_digits text) _ pointed in
    let value : units_of text ≡ n = rw (parts.0, parts.1, whole.value, behind.1) (omega arith) in
    rw (form, value, le-leb n (10 ^ 20) small) refl

-- the date that is printed is the date that is spelled
spelled-date_text : (date : Civil) → date.year < 10000 → date.month < 100 → date.day < 100 → spelled (date_text date) ≡ date
spelled-date_text date year month day =
    let y : value_of (four_digits date.year) ≡ date.year = omega (arith, (four_digits-spell date.year).1) in
    let m : value_of (two_digits date.month) ≡ date.month = omega (arith, (two_digits-spell date.month).1) in
    let d : value_of (two_digits date.day) ≡ date.day = omega (arith, (two_digits-spell date.day).1) in
    λ i. record { year = y i; month = m i; day = d i }

date_text-digits : (date : Civil) → list_all is_digit (date_text date) ≡ true
date_text-digits date = simp is_digit-last

pub day_text-digits : (day : ℕ) → list_all is_digit (day_text day) ≡ true
unfolding day_text
day_text-digits day = date_text-digits (civil_of day)

-- the date of a day is one that is read
is_civil-civil_of : (n : ℕ) → n ≤ last_day → is_civil (civil_of n) ≡ true
is_civil-civil_of n small =
    let date = civil_of n in
    let is = civil_of-is n (omega arith) in
    let last = civil_of-year n small in
    let fits : (1 ≤ date.month) × (date.month ≤ 12) × (1 ≤ date.day) × (date.day ≤ days_in_month (pos date.year) date.month) = (is.civil.1.0, is.civil.1.1, is.civil.2.0, is.civil.2.1) in
    rw (le-leb 1970 date.year is.low, le-leb date.year 2199 last, le-leb 1 date.month fits.0, le-leb date.month 12 fits.1, le-leb 1 date.day fits.2, le-leb date.day (days_in_month (pos date.year) date.month) fits.3) refl

reads_back : (n : ℕ) (date : Civil) → IsDateOf n date → is_civil date ≡ true → day_of_digits (date_text date) ≡ Some n
reads_back n date is civil =
    let long = days_in_month_bounds (pos date.year) date.month in
    let same = spelled-date_text date (omega (arith, is.high)) (omega (arith, is.civil.1.1)) (omega (arith, is.civil.2.1, long.0)) in
    let found : Civil → Option ℕ = λ day. cond (is_civil day) (Some (day_number day)) None in
    rw (date_text-digits date) (ap found same ∙ rw (civil, is.numbered) refl)

pub day_of_digits-day_text : (day : ℕ) → day ≤ last_day → day_of_digits (day_text day) ≡ Some day
unfolding day_text
day_of_digits-day_text day small =
    reads_back day (civil_of day) (civil_of-is day (omega arith)) (is_civil-civil_of day small)

four-digits_back : (a b c d : ℕ) → list_all is_digit (a ∷ b ∷ c ∷ d ∷ []) ≡ true → four_digits (value_of (a ∷ b ∷ c ∷ d ∷ [])) ≡ a ∷ b ∷ c ∷ d ∷ []
four-digits_back a b c d all =
    let pa = and_parts (is_digit a) (is_digit b && (is_digit c && (is_digit d && true))) all in
    let pb = and_parts (is_digit b) (is_digit c && (is_digit d && true)) pa.1 in
    let pc = and_parts (is_digit c) (is_digit d && true) pb.1 in
    let pd = and_parts (is_digit d) true pc.1 in
    let ra = digit_range a pa.0 in
    let rb = digit_range b pb.0 in
    let rc = digit_range c pc.0 in
    let rd = digit_range d pd.0 in
    let n = value_of (a ∷ b ∷ c ∷ d ∷ []) in
    let ea : 48 + n / 100 / 10 % 10 ≡ a = omega arith in
    let eb : 48 + n / 100 % 10 ≡ b = omega arith in
    let ec : 48 + n / 10 % 10 ≡ c = omega arith in
    let ed : 48 + n % 10 ≡ d = omega arith in
    λ i. ea i ∷ eb i ∷ ec i ∷ ed i ∷ []

-- digits are printed again as they were read
pub four-back : (bytes : List ℕ) → length bytes ≡ 4 → list_all is_digit bytes ≡ true → four_digits (value_of bytes) ≡ bytes
four-back [] long all = absurd (omega arith)
four-back (a ∷ []) long all = absurd (omega arith)
four-back (a ∷ b ∷ []) long all = absurd (omega arith)
four-back (a ∷ b ∷ c ∷ []) long all = absurd (omega arith)
four-back (a ∷ b ∷ c ∷ d ∷ []) long all = four-digits_back a b c d all
four-back (a ∷ b ∷ c ∷ d ∷ e ∷ bytes) long all = absurd (omega arith)

pub two-back : (bytes : List ℕ) → length bytes ≡ 2 → list_all is_digit bytes ≡ true → two_digits (value_of bytes) ≡ bytes
two-back [] long all = absurd (omega arith)
two-back (a ∷ []) long all = absurd (omega arith)
two-back (a ∷ b ∷ []) long all =
    let first = and_parts (is_digit a) (is_digit b && true) all in
    let second = and_parts (is_digit b) true first.1 in
    let ra = digit_range a first.0 in
    let rb = digit_range b second.0 in
    let n = value_of (a ∷ b ∷ []) in
    let ea : 48 + n / 10 % 10 ≡ a = omega arith in
    let eb : 48 + n % 10 ≡ b = omega arith in
    λ i. ea i ∷ eb i ∷ []
two-back (a ∷ b ∷ c ∷ bytes) long all = absurd (omega arith)

date_text-spelled : (text : List ℕ) → length text ≡ 8 → list_all is_digit text ≡ true → date_text (spelled text) ≡ text
date_text-spelled text long all =
    let parts = rw (split_at 4 text, split_at 2 (drop 4 text), drop-drop 2 4 text) at all in
    let first = and_parts (list_all is_digit (take 4 text)) _ parts in
    let second = and_parts (list_all is_digit (take 2 (drop 4 text))) _ first.1 in
    let end : take 2 (drop 6 text) ≡ drop 6 text = take_all 2 (drop 6 text) (omega (arith, length-drop 6 text)) in
    let year = four-back (take 4 text) (length-take-le 4 text (omega arith)) first.0 in
    let month = two-back (take 2 (drop 4 text)) (length-take-le 2 (drop 4 text) (omega (arith, length-drop 4 text))) second.0 in
    let day = two-back (take 2 (drop 6 text)) (length-take-le 2 (drop 6 text) (omega (arith, length-drop 6 text))) (rw end second.1) in
    let printed : date_text (spelled text) ≡ (take 4 text ++ take 2 (drop 4 text)) ++ take 2 (drop 6 text) = λ i. (year i ++ month i) ++ day i in
    let back : drop 4 text ≡ take 2 (drop 4 text) ++ drop 6 text = sym (rw (drop-drop 2 4 text) at (take-append-drop 2 (drop 4 text))) in
    printed ∙ rw (end, append_assoc, ← back) (take-append-drop 4 text)

guarded : (a b c : Bool) (n m : ℕ) → ◌≡◌ {A = Option ℕ} (cond (a && b && c) (Some n) None) (Some m) → (a ≡ true) × (b ≡ true) × (c ≡ true) × (n ≡ m)
guarded a b c n m e = grind arith

-- what a day that was read tells of the text
day_of_digits-tell : (text : List ℕ) (day : ℕ) → day_of_digits text ≡ Some day → (length text ≡ 8) × (list_all is_digit text ≡ true) × (is_civil (spelled text) ≡ true) × (day_number (spelled text) ≡ day)
day_of_digits-tell text day read =
    let tell = guarded (length text == 8) (list_all is_digit text) (is_civil (spelled text)) (day_number (spelled text)) day read in
    (eqb-true (length text) 8 tell.0, tell.1, tell.2, tell.3)

pub day_text-day_of_digits : (text : List ℕ) (day : ℕ) → day_of_digits text ≡ Some day → day_text day ≡ text
unfolding day_text
day_text-day_of_digits text day read =
    let tell = day_of_digits-tell text day read in
    let date = civil_of-number (spelled text) day tell.2 tell.3 in
    rw date (date_text-spelled text tell.0 tell.1)

pub day_of_digits-last : (text : List ℕ) (day : ℕ) → day_of_digits text ≡ Some day → day ≤ last_day
day_of_digits-last text day read =
    let tell = day_of_digits-tell text day read in
    day_number-last (spelled text) day tell.2 tell.3
