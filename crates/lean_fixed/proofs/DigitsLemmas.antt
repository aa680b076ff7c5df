-- The digits that are still to be read, behind those of a number.
use Rattle.std.proofs.Common.{◌≡◌, ℕ, suc, ◌+◌, ◌-◌, ◌*◌, ◌^◌, ◌≤◌, ◌<◌, true, false, inl, inr, ◌&&◌, nat_le, cond, List, [], ◌∷◌, length, get_or, drop, drop-cons, Option, Some, None, arith}
use Rattle.std.specs.List.{list_all}
use Rattle.std.proofs.lemmas.Bool.{and_parts, cases_Bool, le-leb}
use Rattle.std.proofs.lemmas.Bool.Decides.{nat_tests}
use Rattle.std.proofs.Math.Nat.{pow-suc, pow-le-pow_right, mul-le-mul_right}
use Rattle.lean_fixed.specs.Digits.{is_digit, are_digits, value_from, value_of, digits}

-- what the whole spells, where `bytes` stand behind the digits of n
abbrev pub digits_behind : ℕ → List ℕ → Option ℕ
digits_behind n bytes =
    cond (list_all is_digit bytes && nat_le (value_from n bytes) (10 ^ 18)) (Some (value_from n bytes)) None

-- more digits make no less
pub value_from-ge : (bytes : List ℕ) (n : ℕ) → n ≤ value_from n bytes
value_from-ge [] n = omega arith
value_from-ge (b ∷ bytes) n = omega (arith, value_from-ge bytes (n * 10 + (b - 48)))

pub digits_behind-large : (n : ℕ) (bytes : List ℕ) → 10 ^ 18 < n → digits_behind n bytes ≡ None
digits_behind-large n bytes h = let more = value_from-ge bytes n in grind (arith, nat_tests)

-- no digit can follow a value that is too large already
pub digits-large : (bytes : List ℕ) (n i : ℕ) → digits_behind 0 bytes ≡ digits_behind n (drop i bytes) → i < length bytes → is_digit (get_or bytes i 0) ≡ true → 10 ^ 18 < n * 10 + (get_or bytes i 0 - 48) → digits bytes ≡ None
digits-large bytes n i rest within digit large =
    let next = digits_behind-large (n * 10 + (get_or bytes i 0 - 48)) (drop (suc i) bytes) large in
    let here = rw (drop-cons bytes i 0) at rest in
    grind (arith, nat_tests)

next_power : (n b power rest : ℕ) → b - 48 ≤ 9 → rest < (n * 10 + (b - 48) + 1) * power → rest < (n + 1) * (power * 10)
next_power n b power rest digit below =
    let more = mul-le-mul_right power (let h : n * 10 + (b - 48) + 1 ≤ (n + 1) * 10 = omega arith in h) in
    grind (arith, more)

-- digits stand for less than ten to the power of their number
pub value_from-lt : (bytes : List ℕ) (n : ℕ) → list_all is_digit bytes ≡ true → value_from n bytes < (n + 1) * 10 ^ length bytes
value_from-lt [] n all = omega arith
value_from-lt (b ∷ bytes) n all =
    let both = and_parts (is_digit b) (list_all is_digit bytes) all in
    let digit : b - 48 ≤ 9 = grind (arith, nat_tests) in
    rw (pow-suc 10 (length bytes)) (next_power n b (10 ^ length bytes) _ digit (value_from-lt bytes (n * 10 + (b - 48)) both.1))

pub value_of-lt : (bytes : List ℕ) → list_all is_digit bytes ≡ true → value_of bytes < 10 ^ length bytes
value_of-lt bytes all = omega (arith, value_from-lt bytes 0 all)

-- so up to 18 digits are never too large
pub digits-short : (bytes : List ℕ) → length bytes ≤ 18 → digits bytes ≡ cond (are_digits bytes) (Some (value_of bytes)) None
digits-short bytes short =
    elim (cases_Bool (list_all is_digit bytes)) [
      | inl all ↦ let fits : nat_le (value_of bytes) (10 ^ 18) ≡ true = le-leb (value_of bytes) (10 ^ 18) (omega (arith, value_of-lt bytes all, let ten : 0 < 10 = omega arith in pow-le-pow_right ten short)) in
          grind (arith, nat_tests)
      | inr not ↦ grind (arith, nat_tests)
    ]

-- so what has that few bytes and no number is no digits alone
pub no_digits-short : (bytes : List ℕ) → length bytes ≤ 18 → digits bytes ≡ None → are_digits bytes ≡ false
no_digits-short bytes short none = let is = digits-short bytes short in grind arith

-- what a number that was read tells of the bytes
pub digits-tell : (bytes : List ℕ) (n : ℕ) → digits bytes ≡ Some n → (list_all is_digit bytes ≡ true) × (value_of bytes ≡ n)
digits-tell bytes n e = grind arith
