-- Numbers as the machine holds them: what is read and computed fits 128 bits.
use Rattle.std.proofs.Common.{◌≡◌, ℕ, zero, suc, ◌+◌, ◌-◌, ◌*◌, ◌^◌, ◌≤◌, ◌<◌, Bool, true, false, ◌&&◌, if◌then◌else◌, ℤ, pos, negsuc, neg_ℤ, int_le, int_div, unsigned_abs, FitsSigned, to_z, of_z, Some, None, refl, arith}
use Rattle.std.specs.Int.{w128}
use Rattle.std.specs.Ordering.{int_eq}
use Rattle.std.proofs.lemmas.Bool.Decides.{nat_tests}
use Rattle.std.proofs.lemmas.Int.{fits_signed_from_abs, quot_is, ints}
use Rattle.std.proofs.Math.Nat.{div-le_self, pow-le-pow_right, mul-le-mul_left}
use Rattle.rule_lang.specs.Values.{reach, within, quotient}

-- the units of a number that was read
pub units-small : (whole places digits : ℕ) → whole < 2 ^ 64 → places < 2 ^ 64 → whole * 10000 + places * 10 ^ (4 - digits) < 2 ^ 127
units-small whole places digits h k =
    let ten : 0 < 10 = omega arith in
    let power = pow-le-pow_right ten (let e : 4 - digits ≤ 4 = omega arith in e) in
    omega (arith, mul-le-mul_left places power)

abs-neg : (n : ℕ) → unsigned_abs (neg_ℤ (pos n)) ≡ n
abs-neg zero = refl
abs-neg (suc n) = refl

-- a quotient is no further from zero than what is divided
abs-div : (a d : ℤ) → unsigned_abs (int_div a d) ≤ unsigned_abs a
abs-div (pos a) (pos d) = div-le_self a d
abs-div (pos a) (negsuc d) = rw abs-neg (div-le_self a (suc d))
abs-div (negsuc a) (pos d) = rw abs-neg (div-le_self (suc a) d)
abs-div (negsuc a) (negsuc d) = div-le_self (suc a) (suc d)

chosen : (passes : Bool) (n m : ℤ) → Some m ≡ (if passes then Some n else None) → (passes ≡ true) × (m ≡ n)
chosen true n m e = (refl, cc)
chosen false n m e = cc

abs-reach : (n : ℤ) → (int_le (neg_ℤ (pos reach)) n && int_le n (pos reach)) ≡ true → unsigned_abs n ≤ reach
abs-reach (pos n) h = grind (arith, nat_tests)
abs-reach (negsuc n) h = grind (arith, nat_tests)

abs-within : (n m : ℤ) → Some m ≡ within n → (m ≡ n) × (unsigned_abs m ≤ reach)
abs-within n m e =
    let is = chosen (int_le (neg_ℤ (pos reach)) n && int_le n (pos reach)) n m e in
    (is.1, rw is.1 (abs-reach n is.0))

pub int_eq-apart : (d : ℤ) → (d ≡ pos 0 → ⊥) → int_eq d (pos 0) ≡ false
int_eq-apart (pos zero) h = absurd (h refl)
int_eq-apart (pos (suc n)) h = grind (arith, ints)
int_eq-apart (negsuc n) h = refl

pub quotient-is : (n d m : ℤ) → int_eq d (pos 0) ≡ false → FitsSigned w128 n → FitsSigned w128 d → Some m ≡ within n → Some (to_z w128 (of_z w128 (int_div (to_z w128 (of_z w128 m)) (to_z w128 (of_z w128 d))))) ≡ quotient n d
quotient-is n d m some fits_n fits_d e =
    let is = abs-within n m e in
    let fits_m = fits_signed_from_abs w128 m (omega (arith, is.1)) in
    let fits = fits_signed_from_abs w128 (int_div m d) (omega (arith, is.1, abs-div m d)) in
    rw (some, ← e, quot_is w128 m d fits_m fits_d fits) refl
