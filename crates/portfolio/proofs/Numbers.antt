-- Signed numbers: how large products, parts and sums of them are, and that they fit 128 bits.
use Rattle.std.proofs.Common.{◌≡◌, ℕ, zero, suc, ◌+◌, ◌*◌, ◌-◌, ◌^◌, ◌<◌, ◌≤◌, ◌/◌, ℤ, pos, negsuc, neg_ℤ, ◌+ℤ◌, ◌-ℤ◌, ◌*ℤ◌, to_z, of_z, refl, ap, ◌∙◌, arith}
use mir.Syntax.{w128}
use Rattle.std.specs.Prelude.{unsigned_abs, int_div}
use Rattle.std.proofs.lemmas.Int.{ints, unsigned_abs-mul, to_z-of_z, to_z_pos, fits_signed_from_abs}
use Rattle.std.proofs.Math.Nat.{mul-le-mul, mul-le-mul_left, div-le_self, zero-mul}
use Rattle.lean_fixed.specs.Ranges.{IsAtMost}

-- a range either way, and the absolute value
pub abs_le : (m : ℕ) (z : ℤ) → IsAtMost m z → unsigned_abs z ≤ m
abs_le m (pos a) h = omega (arith, ints, h)
abs_le m (negsuc a) h = omega (arith, ints, h)

pub at_most : (m : ℕ) (z : ℤ) → unsigned_abs z ≤ m → IsAtMost m z
at_most m (pos a) h = (omega (arith, ints), omega (arith, ints))
at_most m (negsuc a) h = (omega (arith, ints), omega (arith, ints))

pub abs-neg : (n : ℕ) → unsigned_abs (neg_ℤ (pos n)) ≡ n
abs-neg zero = refl
abs-neg (suc n) = refl

pub abs_mul_le : (m n : ℕ) (a b : ℤ) → unsigned_abs a ≤ m → unsigned_abs b ≤ n → unsigned_abs (a *ℤ b) ≤ m * n
abs_mul_le m n a b h k = rw (unsigned_abs-mul a b) (mul-le-mul h k)

-- a number that fits 128 bits comes back from them
pub kept : (z : ℤ) → unsigned_abs z < 2 ^ 127 → to_z w128 (of_z w128 z) ≡ z
kept z h = to_z-of_z w128 z (fits_signed_from_abs w128 z h)

-- the part of a cost that falls to some of the shares
part_abs : (cost : ℤ) (held shares : ℕ) → unsigned_abs (int_div cost (pos held) *ℤ pos shares) ≡ unsigned_abs cost / held * shares
part_abs (pos a) held shares = refl
part_abs (negsuc a) held shares = unsigned_abs-mul (neg_ℤ (pos (suc a / held))) (pos shares) ∙ ap (λ n. n * shares) (abs-neg (suc a / held))

part_bound : (a held shares : ℕ) → shares ≤ held → a / held * shares ≤ a
part_bound a held shares h =
    let low : a / held * shares ≤ a / held * held = mul-le-mul_left (a / held) h in omega arith

pub part_le : (cost : ℤ) (held shares : ℕ) → shares ≤ held → unsigned_abs (int_div cost (pos held) *ℤ pos shares) ≤ unsigned_abs cost
part_le cost held shares h = rw (part_abs cost held shares) (part_bound (unsigned_abs cost) held shares h)

-- what is left of the cost is on the same side
neg_less : (a k : ℕ) → k ≤ a → unsigned_abs (neg_ℤ (pos a) -ℤ neg_ℤ (pos k)) ≡ a - k
neg_less a k h =
    let e : neg_ℤ (pos a) -ℤ neg_ℤ (pos k) ≡ neg_ℤ (pos (a - k)) = omega (arith, ints) in rw e (abs-neg (a - k))

pos_less : (a k : ℕ) → k ≤ a → unsigned_abs (pos a -ℤ pos k) ≡ a - k
pos_less a k h = let e : pos a -ℤ pos k ≡ pos (a - k) = omega (arith, ints) in rw e refl

part_sign : (k shares : ℕ) → neg_ℤ (pos k) *ℤ pos shares ≡ neg_ℤ (pos (k * shares))
part_sign zero shares = rw zero-mul refl
part_sign (suc k) shares = refl

pub part_rest : (cost : ℤ) (held shares : ℕ) → shares ≤ held
    → unsigned_abs (int_div cost (pos held) *ℤ pos shares) + unsigned_abs (cost -ℤ (int_div cost (pos held) *ℤ pos shares)) ≡ unsigned_abs cost
part_rest (pos a) held shares h = let k : a / held * shares ≤ a = part_bound a held shares h in omega (arith, pos_less a (a / held * shares) k)
part_rest (negsuc a) held shares h = let k : suc a / held * shares ≤ suc a = part_bound (suc a) held shares h in
    rw part_sign (omega (arith, abs-neg (suc a / held * shares), neg_less (suc a) (suc a / held * shares) k))

div_abs : (cost : ℤ) (held : ℕ) → unsigned_abs (int_div cost (pos held)) ≤ unsigned_abs cost
div_abs (pos a) held = div-le_self a held
div_abs (negsuc a) held = rw (abs-neg (suc a / held)) (div-le_self (suc a) held)

-- the part as it is computed
pub part_computed : (cost : ℤ) (held shares : ℕ) → unsigned_abs cost < 2 ^ 127 → held < 2 ^ 64 → shares < 2 ^ 64 → shares ≤ held
    → to_z w128 (of_z w128 (to_z w128 (of_z w128 (int_div (to_z w128 (of_z w128 cost)) (to_z w128 held))) *ℤ to_z w128 shares))
    ≡ int_div cost (pos held) *ℤ pos shares
part_computed cost held shares fits h s le =
    let q : unsigned_abs (int_div cost (pos held)) < 2 ^ 127 = omega (arith, div_abs cost held) in
    let p : unsigned_abs (int_div cost (pos held) *ℤ pos shares) < 2 ^ 127 = omega (arith, part_le cost held shares le) in
    rw (kept cost fits, to_z_pos w128 held (omega arith), to_z_pos w128 shares (omega arith), kept (int_div cost (pos held)) q, kept (int_div cost (pos held) *ℤ pos shares) p) refl

pub part_inner : (cost : ℤ) (held shares : ℕ) → unsigned_abs cost < 2 ^ 127 → held < 2 ^ 64 → shares < 2 ^ 64
    → to_z w128 (of_z w128 (int_div (to_z w128 (of_z w128 cost)) (to_z w128 held))) *ℤ to_z w128 shares ≡ int_div cost (pos held) *ℤ pos shares
part_inner cost held shares fits h s =
    let q : unsigned_abs (int_div cost (pos held)) < 2 ^ 127 = omega (arith, div_abs cost held) in
    rw (kept cost fits, to_z_pos w128 held (omega arith), to_z_pos w128 shares (omega arith), kept (int_div cost (pos held)) q) refl

-- sums and their absolute values
pub abs_add_le : (a b : ℤ) → unsigned_abs (a +ℤ b) ≤ unsigned_abs a + unsigned_abs b
abs_add_le (pos a) (pos b) = omega arith
abs_add_le (pos a) (negsuc b) = grind (arith, ints)
abs_add_le (negsuc a) (pos b) = grind (arith, ints)
abs_add_le (negsuc a) (negsuc b) = omega arith

pub abs-neg_ℤ : (z : ℤ) → unsigned_abs (neg_ℤ z) ≡ unsigned_abs z
abs-neg_ℤ (pos n) = abs-neg n
abs-neg_ℤ (negsuc n) = refl

pub closed_money : (cost profit value part : ℤ) (most : ℕ) → unsigned_abs part + unsigned_abs (cost -ℤ part) ≡ unsigned_abs cost
    → unsigned_abs value ≤ most
    → unsigned_abs (cost -ℤ part) + unsigned_abs (profit +ℤ (neg_ℤ value -ℤ part)) ≤ unsigned_abs cost + unsigned_abs profit + most
closed_money cost profit value part most split bound =
    omega (arith, abs_add_le profit (neg_ℤ value -ℤ part), abs_add_le (neg_ℤ value) (neg_ℤ part), abs-neg_ℤ value, abs-neg_ℤ part)

pub opened_money : (cost profit value : ℤ) (most : ℕ) → unsigned_abs value ≤ most
    → unsigned_abs (cost +ℤ value) + unsigned_abs profit ≤ unsigned_abs cost + unsigned_abs profit + most
opened_money cost profit value most bound = omega (arith, abs_add_le cost value)
