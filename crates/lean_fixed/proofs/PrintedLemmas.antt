-- How the texts of money are made of their parts.
use Rattle.std.proofs.Common.{◌≡◌, ℕ, ◌+◌, ◌/◌, ◌%◌, ◌^◌, ◌<◌, ◌≤◌, List, ◌∷◌, ◌++◌, length, drop, length-append, append_assoc, arith, refl, ap, ◌∙◌, false, rules, FitsSigned, w64, ℤ, pos, negsuc, unsigned_abs}
use Rattle.std.specs.Int.{w128}
use lib.Signed.{mag}
use Rattle.std.proofs.Math.ListN.{set, length-set}
use Rattle.std.proofs.lemmas.List.{drop-set}
use Rattle.std.proofs.lemmas.Fmt.{decimal_step_wide, length-decimal-le_wide}
use Rattle.std.specs.Fmt.{decimal, sign_text}
use Rattle.std.specs.Int.{is_negative}
use Rattle.lean_fixed.specs.Printed.{four_digits, dollars_text, money_text, units_text, day_text, moment_text}

-- the last four digits are those of the number's last four
pub four_digits-last : (n : ℕ) → four_digits (n % 10000) ≡ four_digits n
four_digits-last n =
    let thousands : n % 10000 / 100 / 10 % 10 ≡ n / 100 / 10 % 10 = omega arith in
    let hundreds : n % 10000 / 100 % 10 ≡ n / 100 % 10 = omega arith in
    let tens : n % 10000 / 10 % 10 ≡ n / 10 % 10 = omega arith in
    let ones : n % 10000 % 10 ≡ n % 10 = omega arith in
    rw (thousands, hundreds, tens, ones) refl

-- the parts of which the text of a price or of money is made
pub dollars_text-money : (units : ℤ) (n : ℕ) → n ≡ unsigned_abs units → dollars_text (is_negative units) (n / 10000) (n % 10000) ≡ money_text units
unfolding money_text units_text
dollars_text-money units n e = rw (four_digits-last n, e) refl

-- the last five of so many bytes, written one by one from the last on
set-last : (n : ℕ) (xs rest : List ℕ) (y : ℕ) → n < length xs → drop (n + 1) xs ≡ rest → (drop n (set xs n y) ≡ y ∷ rest) × (length (set xs n y) ≡ length xs)
set-last n xs rest y small behind = (rw (drop-set xs n y small, behind) refl, length-set xs n y)

pub drop-five_set : (n : ℕ) (xs : List ℕ) (a b c d e : ℕ) → n + 5 ≤ length xs
    → (drop n (set (set (set (set (set xs (n + 4) e) (n + 3) d) (n + 2) c) (n + 1) b) n a) ≡ a ∷ b ∷ c ∷ d ∷ e ∷ drop (n + 5) xs)
    × (length (set (set (set (set (set xs (n + 4) e) (n + 3) d) (n + 2) c) (n + 1) b) n a) ≡ length xs)
drop-five_set n xs a b c d e size =
    let four : n + 4 + 1 ≡ n + 5 = omega arith in
    let three : n + 3 + 1 ≡ n + 4 = omega arith in
    let two : n + 2 + 1 ≡ n + 3 = omega arith in
    let one : n + 1 + 1 ≡ n + 2 = omega arith in
    let fifth = set-last (n + 4) xs (drop (n + 5) xs) e (omega arith) (rw four refl) in
    let fourth = set-last (n + 3) (set xs (n + 4) e) _ d (omega (arith, fifth.1)) (rw three fifth.0) in
    let third = set-last (n + 2) (set (set xs (n + 4) e) (n + 3) d) _ c (omega (arith, fifth.1, fourth.1)) (rw two fourth.0) in
    let second = set-last (n + 1) (set (set (set xs (n + 4) e) (n + 3) d) (n + 2) c) _ b (omega (arith, fifth.1, fourth.1, third.1)) (rw one third.0) in
    let first = set-last n (set (set (set (set xs (n + 4) e) (n + 3) d) (n + 2) c) (n + 1) b) _ a (omega (arith, fifth.1, fourth.1, third.1, second.1)) second.0 in
    (first.0, omega (arith, fifth.1, fourth.1, third.1, second.1, first.1))

-- so many whole dollars have at most 35 digits, and without the last one there is one digit less
pub length-dollars : (dollars : ℕ) → dollars < 10 ^ 35 → length (decimal dollars) ≤ 35
length-dollars dollars small = length-decimal-le_wide 35 dollars (omega arith) small (omega arith)

pub length-dollars_step : (dollars : ℕ) → 10 ≤ dollars → dollars < 10 ^ 64 → length (decimal dollars) ≡ length (decimal (dollars / 10)) + 1
length-dollars_step dollars low high = ap length (decimal_step_wide dollars low high) ∙ length-append _ _

-- a text of at most so many dollars
pub length-money_text : (units : ℤ) (digits : ℕ) → 0 < digits → unsigned_abs units / 10000 < 10 ^ digits → unsigned_abs units / 10000 < 10 ^ 64 → length (money_text units) ≤ digits + 6
unfolding money_text units_text
length-money_text units digits some small wide =
    let sign : length (sign_text (is_negative units)) ≤ 1 = grind arith in
    let dollars = length-decimal-le_wide digits (unsigned_abs units / 10000) some small wide in
    omega (arith, length-append (sign_text (is_negative units)) (decimal (unsigned_abs units / 10000) ++ 46 ∷ four_digits (unsigned_abs units)), length-append (decimal (unsigned_abs units / 10000)) (46 ∷ four_digits (unsigned_abs units)))

-- the text of a price that is written from its end on: the point and four digits, the dollars, and the sign
joined : (sign dollars places behind : List ℕ) → sign ++ (dollars ++ 46 ∷ (places ++ behind)) ≡ (sign ++ (dollars ++ 46 ∷ places)) ++ behind
joined sign dollars places behind = simp append_assoc

pub money_of_parts : (units : ℤ) (n : ℕ) (signed digits point behind : List ℕ) → n ≡ unsigned_abs units
    → signed ≡ sign_text (is_negative units) ++ digits → digits ≡ decimal (n / 10000) ++ point → point ≡ 46 ∷ (four_digits (n % 10000) ++ behind)
    → signed ≡ money_text units ++ behind
money_of_parts units n signed digits point behind e s d p =
    rw (s, d, p) (joined (sign_text (is_negative units)) (decimal (n / 10000)) (four_digits (n % 10000)) behind ∙ ap (λ text. text ++ behind) (dollars_text-money units n e))

pub length-money_of_parts : (units : ℤ) (n start dollars point end : ℕ) → n ≡ unsigned_abs units
    → start + length (sign_text (is_negative units)) ≡ dollars → dollars + length (decimal (n / 10000)) ≡ point → point + 5 ≡ end
    → start + length (money_text units) ≡ end
length-money_of_parts units n start dollars point end e s d p =
    rw (← dollars_text-money units n e)
    (omega (arith, s, d, p, length-append (sign_text (is_negative units)) (decimal (n / 10000) ++ 46 ∷ four_digits (n % 10000)), length-append (decimal (n / 10000)) (46 ∷ four_digits (n % 10000))))

unsigned_abs-mag : (units : ℤ) → unsigned_abs units ≤ mag units + 1
unsigned_abs-mag (pos n) = omega arith
unsigned_abs-mag (negsuc n) = omega arith

-- the whole dollars of a price
pub length-price_dollars : (price : ℤ) (n : ℕ) → FitsSigned w64 price → n ≡ unsigned_abs price → length (decimal (n / 10000)) ≤ 15
length-price_dollars price n fits e =
    let small = unsigned_abs-mag price in
    length-decimal-le_wide 15 (n / 10000) (omega arith) (omega (arith, e, fits.sfits)) (omega (arith, e, fits.sfits))

pub length-day_text : (day : ℕ) → length (day_text day) ≡ 8
unfolding day_text
length-day_text day = refl

pub length-moment_text : (minute : ℕ) → length (moment_text minute) ≡ 14
unfolding moment_text day_text
length-moment_text minute = refl

is_negative-pos : (units : ℕ) → is_negative (pos units) ≡ false
is_negative-pos units = search rules

pub money_text-pos : (units : ℕ) → money_text (pos units) ≡ units_text units
unfolding money_text
money_text-pos units = rw (is_negative-pos units) refl

pub length-price_text : (price : ℤ) → FitsSigned w64 price → length (money_text price) ≤ 21
length-price_text price fits =
    let small = unsigned_abs-mag price in
    length-money_text price 15 (omega arith) (omega (arith, fits.sfits)) (omega (arith, fits.sfits))

pub length-any_money_text : (money : ℤ) → FitsSigned w128 money → length (money_text money) ≤ 41
length-any_money_text money fits =
    let small = unsigned_abs-mag money in
    length-money_text money 35 (omega arith) (omega (arith, fits.sfits)) (omega (arith, fits.sfits))
