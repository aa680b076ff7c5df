-- How a text that was written at a place is made of its parts.
use Rattle.std.proofs.Common.{◌≡◌, ℕ, ◌+◌, ◌/◌, ◌%◌, ◌^◌, ◌<◌, ◌≤◌, List, [], ◌∷◌, ◌++◌, length, take, drop, set, get_or, sym, refl, ap, ◌∙◌, append_assoc, length-append, take-append-drop, arith, add-one, drop-cons, ℤ, unsigned_abs}
use Rattle.std.proofs.lemmas.List.{length-take-le, length-set, take_at, drop_at, drop-drop, drop-set, drop-set-lt, take-set, take_more_set}
use Rattle.std.proofs.lemmas.Fmt.{decimal_digit, decimal_step_wide}
use Rattle.std.specs.Fmt.{decimal, sign_text}
use Rattle.std.specs.Int.{is_negative}
use Rattle.itoa.proofs.Decimal.{decimal_four, length_one, length_two, length_pair}
use Rattle.lean_fixed.specs.Printed.{four_digits, money_text}
use Rattle.lean_fixed.proofs.PrintedLemmas.{dollars_text-money}
use Rattle.lean_fixed.specs.Written.{IsWritten}

-- a buffer in which a text stands between what stood before and behind it
pub written-between : (text old new : List ℕ) (place behind : ℕ) → behind ≡ place + length text → behind ≤ length old → length new ≡ length old
    → take place new ≡ take place old → drop place new ≡ text ++ drop behind old → IsWritten text place old new behind
written-between text old new place behind end within size before after =
    let long : length (take place old ++ text) ≡ behind = omega (arith, length-append (take place old) text, length-take-le place old (omega arith), end) in
    let whole : new ≡ (take place old ++ text) ++ drop behind old =
    sym (take-append-drop place new) ∙ ap (λ x. x ++ drop place new) before ∙ ap (λ x. take place old ++ x) after
    ∙ sym (append_assoc (take place old) text (drop behind old)) in
    record {
      end = end;
      size = size;
      written = ap (take behind) whole ∙ take_at (take place old ++ text) (drop behind old) behind long;
      rest = ap (drop behind) whole ∙ drop_at (take place old ++ text) (drop behind old) behind long;
    }

-- one text behind another
pub written-both : (first second old mid new : List ℕ) (place between behind : ℕ) → IsWritten first place old mid between → IsWritten second between mid new behind
    → IsWritten (first ++ second) place old new behind
written-both first second old mid new place between behind one two = record {
  end = omega (arith, one.end, two.end, length-append first second);
  size = two.size ∙ one.size;
  written = two.written ∙ ap (λ x. x ++ second) one.written ∙ append_assoc (take place old) first second;
  rest = two.rest ∙ rw two.end (sym (drop-drop (length second) between mid) ∙ ap (drop (length second)) one.rest ∙ drop-drop (length second) between old);
}

-- one byte
pub written-byte : (byte : ℕ) (old : List ℕ) (place : ℕ) → place < length old → IsWritten (byte ∷ []) place old (set old place byte) (place + 1)
written-byte byte old place within = record {
  end = refl;
  size = length-set old place byte;
  written = take_more_set old place byte within;
  rest = drop-set-lt (place + 1) old place byte (omega arith);
}

-- with a 1 before them the last four digits of a number are those of a number, zeros too
pub one_and_places : (units : ℕ) → decimal (10000 + units % 10000) ≡ 49 ∷ four_digits units
one_and_places units =
    let one : (10000 + units % 10000) / 10000 ≡ 1 = omega arith in
    let thousands : (10000 + units % 10000) % 10000 / 100 / 10 ≡ units / 100 / 10 % 10 = omega arith in
    let hundreds : (10000 + units % 10000) % 10000 / 100 % 10 ≡ units / 100 % 10 = omega arith in
    let tens : (10000 + units % 10000) % 10000 % 100 / 10 ≡ units / 10 % 10 = omega arith in
    let ones : (10000 + units % 10000) % 10000 % 100 % 10 ≡ units % 10 = omega arith in
    rw (decimal_four (10000 + units % 10000) (omega arith) (omega arith), one, decimal_digit 1 (omega arith), thousands, hundreds, tens, ones) refl

-- a byte that takes the place of another one
replaced : (line rest : List ℕ) (place first byte : ℕ) → place < length line → drop place line ≡ first ∷ rest → drop place (set line place byte) ≡ byte ∷ rest
replaced line rest place first byte within e =
    let begins : drop place line ≡ get_or line place 0 ∷ drop (place + 1) line = rw (add-one, drop-cons line place 0) in
    let behind : drop (place + 1) line ≡ rest = cc (begins, e) in
    drop-set line place byte within ∙ ap (λ x. byte ∷ x) behind

-- the point takes the place of the 1
pub written-places : (units point start : ℕ) (old new : List ℕ) → point + 5 ≤ length old → length new ≡ length old
    → start + length (decimal (10000 + units % 10000)) ≡ point + 5 → take start new ≡ take start old
    → drop start new ≡ decimal (10000 + units % 10000) ++ drop (point + 5) old
    → IsWritten (46 ∷ four_digits units) point old (set new point 46) (point + 5)
written-places units point start old new within size begins before after =
    let five : length (decimal (10000 + units % 10000)) ≡ 5 = ap length (one_and_places units) in
    let same : start ≡ point = omega (arith, five, begins) in
    let digits : drop point new ≡ 49 ∷ (four_digits units ++ drop (point + 5) old) =
    (rw same at after) ∙ ap (λ x. x ++ drop (point + 5) old) (one_and_places units) in
    written-between (46 ∷ four_digits units) old (set new point 46) point (point + 5) refl within
    (length-set new point 46 ∙ size) (take-set new point 46 ∙ (rw same at before))
    (replaced new (four_digits units ++ drop (point + 5) old) point 49 46 (omega (arith, size, within)) digits)

-- how many digits a number of at most four has
pub count_of_two : (n : ℕ) → 10 ≤ n → n < 100 → length (decimal n) ≡ 2
count_of_two = length_two

pub count_of_three : (n : ℕ) → 100 ≤ n → n < 1000 → length (decimal n) ≡ 3
count_of_three n low high = omega (arith, length_pair n low (omega arith), length_one (n / 100) (omega arith))

pub count_of_four : (n : ℕ) → 1000 ≤ n → n < 10000 → length (decimal n) ≡ 4
count_of_four n low high = omega (arith, length_pair n (omega arith) (omega arith), length_two (n / 100) (omega arith) (omega arith))

-- the digits of a number, which were written from their end on
pub written-from_end : (text old new : List ℕ) (place start behind : ℕ) → behind ≡ place + length text → behind ≤ length old → length new ≡ length old
    → start + length text ≡ behind → take start new ≡ take start old → drop start new ≡ text ++ drop behind old → IsWritten text place old new behind
written-from_end text old new place start behind end within size begins before after =
    let same : start ≡ place = omega (arith, begins, end) in
    written-between text old new place behind end within size (rw same at before) (rw same at after)

-- the last digit behind the others
pub written-digit : (n : ℕ) (old mid : List ℕ) (place between : ℕ) → 10 ≤ n → n < 10 ^ 64 → between < length mid → IsWritten (decimal (n / 10)) place old mid between
    → IsWritten (decimal n) place old (set mid between (48 + n % 10)) (between + 1)
written-digit n old mid place between low high within front =
    rw (decimal_step_wide n low high)
    (written-both (decimal (n / 10)) ((48 + n % 10) ∷ []) old mid (set mid between (48 + n % 10)) place between (between + 1) front (written-byte (48 + n % 10) mid between within))

-- the text of a price or of money: its sign, the whole dollars, and a point with four digits
pub written-money : (units : ℤ) (n : ℕ) (old signed whole new : List ℕ) (place first point behind : ℕ) → n ≡ unsigned_abs units
    → IsWritten (sign_text (is_negative units)) place old signed first → IsWritten (decimal (n / 10000)) first signed whole point
    → IsWritten (46 ∷ four_digits (n % 10000)) point whole new behind → IsWritten (money_text units) place old new behind
written-money units n old signed whole new place first point behind e sign dollars places =
    rw (← dollars_text-money units n e)
    (written-both (sign_text (is_negative units)) (decimal (n / 10000) ++ 46 ∷ four_digits (n % 10000)) old signed new place first behind sign
    (written-both (decimal (n / 10000)) (46 ∷ four_digits (n % 10000)) signed whole new first point behind dollars places))
