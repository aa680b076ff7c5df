-- Facts of one symbol's fills.
use Rattle.std.proofs.Common.{◌≡◌, ℕ, suc, ◌+◌, ◌-◌, ◌*◌, ◌<◌, ◌≤◌, Bool, true, false, ◌==◌, ℤ, pos, negsuc, neg_ℤ, ◌+ℤ◌, ◌-ℤ◌, ◌*ℤ◌, refl, sym, ap, ◌∙◌, arith, if◌then◌else◌}
use Rattle.std.specs.Prelude.{unsigned_abs, int_div, nat_le}
use Rattle.std.proofs.lemmas.Int.{ints, unsigned_abs-mul}
use Rattle.std.proofs.lemmas.Bool.Decides.{nat_tests}
use Rattle.std.proofs.Math.Nat.{add-mul}
use Rattle.lean_fixed.specs.Ranges.{IsAtMost}
use Rattle.portfolio.specs.declared.lot.Lot.{Lot}
use Rattle.portfolio.specs.Lots.{enlarges, part_of, opened, closed, filled}
use Rattle.portfolio.proofs.Numbers.{part_rest, closed_money, opened_money, abs-neg, abs-neg_ℤ}

-- two lots of the same numbers are the same
pub same_lot : (a b : Lot) → a.position ≡ b.position → a.cost ≡ b.cost → a.profit ≡ b.profit → a ≡ b
same_lot a b p c g = λ i. record { position = p i; cost = c i; profit = g i }

-- what is left of a quantity behind zero is less than it
pub rest_at_most : (most : ℕ) (held quantity : ℤ) → enlarges held quantity ≡ false → unsigned_abs held < unsigned_abs quantity → IsAtMost most quantity
    → IsAtMost most (held +ℤ quantity)
rest_at_most most (pos a) (pos b) e l h = absurd (grind (arith, ints))
rest_at_most most (pos a) (negsuc b) e l h = (omega (arith, ints), omega (arith, ints))
rest_at_most most (negsuc a) (pos b) e l h = (omega (arith, ints), omega (arith, ints))
rest_at_most most (negsuc a) (negsuc b) e l h = absurd (grind (arith, ints))

-- the position after a fill
pub filled-position : (lot : Lot) (quantity price : ℤ) → (filled lot quantity price).position ≡ lot.position +ℤ quantity
filled-position lot quantity price = by (enlarges lot.position quantity) (nat_le (unsigned_abs quantity) (unsigned_abs lot.position))
  where
    by : (b d : Bool) → (if b then opened lot quantity price else if d then closed lot quantity price
        else opened (closed lot (neg_ℤ lot.position) price) (lot.position +ℤ quantity) price).position ≡ lot.position +ℤ quantity
    by true d = refl
    by false true = refl
    by false false = omega (arith, ints)

-- what is paid and gained grows by no more than the value of a fill
abbrev pub money_of : Lot → ℕ
money_of lot = unsigned_abs lot.cost + unsigned_abs lot.profit

part_split : (b : Bool) (cost : ℤ) (held shares : ℕ) → shares ≤ held
    → unsigned_abs (if b then cost else int_div cost (pos held) *ℤ pos shares)
    + unsigned_abs (cost -ℤ (if b then cost else int_div cost (pos held) *ℤ pos shares)) ≡ unsigned_abs cost
part_split true cost held shares h = let e : cost -ℤ cost ≡ pos 0 = omega (arith, ints) in rw e (omega arith)
part_split false cost held shares h = part_rest cost held shares h

closed_grows : (lot : Lot) (quantity price : ℤ) → unsigned_abs quantity ≤ unsigned_abs lot.position
    → unsigned_abs (closed lot quantity price).cost + unsigned_abs (closed lot quantity price).profit
    ≤ unsigned_abs lot.cost + unsigned_abs lot.profit + unsigned_abs (quantity *ℤ price)
closed_grows lot quantity price h =
    closed_money lot.cost lot.profit (quantity *ℤ price) (part_of lot.cost (unsigned_abs lot.position) (unsigned_abs quantity)) (unsigned_abs (quantity *ℤ price))
    (part_split (unsigned_abs quantity == unsigned_abs lot.position) lot.cost (unsigned_abs lot.position) (unsigned_abs quantity) h) (omega arith)

opened_grows : (lot : Lot) (quantity price : ℤ)
    → unsigned_abs (opened lot quantity price).cost + unsigned_abs (opened lot quantity price).profit
    ≤ unsigned_abs lot.cost + unsigned_abs lot.profit + unsigned_abs (quantity *ℤ price)
opened_grows lot quantity price = opened_money lot.cost lot.profit (quantity *ℤ price) (unsigned_abs (quantity *ℤ price)) (omega arith)

turned_abs : (held quantity : ℤ) → enlarges held quantity ≡ false → unsigned_abs held ≤ unsigned_abs quantity
    → unsigned_abs (neg_ℤ held) + unsigned_abs (held +ℤ quantity) ≡ unsigned_abs quantity
turned_abs (pos a) (pos b) e l = absurd (grind (arith, ints))
turned_abs (pos a) (negsuc b) e l =
    let s : pos a +ℤ negsuc b ≡ neg_ℤ (pos (suc b - a)) = omega (arith, ints) in rw (s, abs-neg a, abs-neg (suc b - a)) (omega arith)
turned_abs (negsuc a) (pos b) e l =
    let s : negsuc a +ℤ pos b ≡ pos (b - suc a) = omega (arith, ints) in rw s (omega arith)
turned_abs (negsuc a) (negsuc b) e l = absurd (grind (arith, ints))

turned_value : (held quantity price : ℤ) → enlarges held quantity ≡ false → unsigned_abs held ≤ unsigned_abs quantity
    → unsigned_abs (neg_ℤ held *ℤ price) + unsigned_abs ((held +ℤ quantity) *ℤ price) ≡ unsigned_abs (quantity *ℤ price)
turned_value held quantity price e l =
    rw (unsigned_abs-mul (neg_ℤ held) price, unsigned_abs-mul (held +ℤ quantity) price, unsigned_abs-mul quantity price)
    (sym (add-mul (unsigned_abs (neg_ℤ held)) (unsigned_abs (held +ℤ quantity)) (unsigned_abs price)) ∙ ap (λ n. n * unsigned_abs price) (turned_abs held quantity e l))

turned_grows : (lot : Lot) (quantity price : ℤ) → enlarges lot.position quantity ≡ false → unsigned_abs lot.position ≤ unsigned_abs quantity
    → money_of (opened (closed lot (neg_ℤ lot.position) price) (lot.position +ℤ quantity) price) ≤ money_of lot + unsigned_abs (quantity *ℤ price)
turned_grows lot quantity price e l =
    omega (
      arith,
      opened_grows (closed lot (neg_ℤ lot.position) price) (lot.position +ℤ quantity) price,
      closed_grows lot (neg_ℤ lot.position) price (omega (arith, abs-neg_ℤ lot.position)),
      turned_value lot.position quantity price e l,
    )

pub filled_grows : (lot : Lot) (quantity price : ℤ) → money_of (filled lot quantity price) ≤ money_of lot + unsigned_abs (quantity *ℤ price)
filled_grows lot quantity price = by (enlarges lot.position quantity) (nat_le (unsigned_abs quantity) (unsigned_abs lot.position)) refl refl
  where
    by : (b d : Bool) → enlarges lot.position quantity ≡ b → nat_le (unsigned_abs quantity) (unsigned_abs lot.position) ≡ d
        → money_of (if b then opened lot quantity price else if d then closed lot quantity price
        else opened (closed lot (neg_ℤ lot.position) price) (lot.position +ℤ quantity) price) ≤ money_of lot + unsigned_abs (quantity *ℤ price)
    by true d e k = opened_grows lot quantity price
    by false true e k = closed_grows lot quantity price (grind (arith, nat_tests))
    by false false e k = turned_grows lot quantity price e (grind (arith, nat_tests))
