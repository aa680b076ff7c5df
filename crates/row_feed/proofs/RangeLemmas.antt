-- The end of what is given lies past the ends before it.
use Rattle.std.proofs.Common.{◌≡◌, ℕ, ◌<◌, ◌≤◌, ℤ, pos, ◌<ℤ◌, ◌≤ℤ◌, int_lt, int_le, Bool, true, false, refl, arith}
use Rattle.std.proofs.lemmas.Int.{ints}

-- what ends past a start, and past all ends so far, ends past the last
pub past_last : (start at : ℤ) (reached end : ℕ) → (start <ℤ at → at ≤ℤ pos reached) → start <ℤ pos end → reached < end → int_lt at (pos end) ≡ true
past_last start at reached end so_far above up = by (int_lt start at) refl
  where
    by : (b : Bool) → int_lt start at ≡ b → int_lt at (pos end) ≡ true
    by true is =
        let past : start <ℤ at = grind (arith, ints) in
        let low : at ≤ℤ pos reached = so_far past in
        let less : at <ℤ pos end = omega (arith, ints, low, up) in
        grind (arith, ints)
    by false is =
        let low : at ≤ℤ start = grind (arith, ints) in
        let less : at <ℤ pos end = omega (arith, ints, low, above) in
        grind (arith, ints)

pub not_before_last : (start at : ℤ) (reached end : ℕ) → (start <ℤ at → at ≤ℤ pos reached) → start <ℤ pos end → reached ≤ end → int_le at (pos end) ≡ true
not_before_last start at reached end so_far above up = by (int_lt start at) refl
  where
    by : (b : Bool) → int_lt start at ≡ b → int_le at (pos end) ≡ true
    by true is =
        let past : start <ℤ at = grind (arith, ints) in
        let low : at ≤ℤ pos reached = so_far past in
        let less : at ≤ℤ pos end = omega (arith, ints, low, up) in
        grind (arith, ints)
    by false is =
        let low : at ≤ℤ start = grind (arith, ints) in
        let less : at ≤ℤ pos end = omega (arith, ints, low, above) in
        grind (arith, ints)
