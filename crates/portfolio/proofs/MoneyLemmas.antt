-- The sums over a million fills are money.
use Rattle.std.proofs.Common.{ℕ, ◌≤◌, List, length, ℤ, subst, arith}
use Rattle.std.specs.Prelude.{unsigned_abs}
use Rattle.lean_fixed.specs.Ranges.{IsStartingCash, IsMoney, IsPosition, most_money, most_position}
use Rattle.lean_orders.specs.declared.event.Fill.{Fill}
use Rattle.portfolio.specs.LotRanges.{most_cost}
use Rattle.portfolio.specs.Sums.{Mark, fills_of, cash, position, fees, realised, worth, equity, gross, gross_without, AreFills, AreMarks}
use Rattle.portfolio.specs.Stands.{most_fills}
use Rattle.portfolio.proofs.Numbers.{at_most, abs_add_le}
use Rattle.portfolio.proofs.FillLemmas.{lot-position}
use Rattle.portfolio.proofs.SmallLemmas.{cash_small, fees_small, realised_small, worth_small, gross_small, others_small, position_small}

money : (n : ℤ) → unsigned_abs n ≤ most_cost → IsMoney n
money n small = at_most most_money n (omega (arith, small))

pub cash_money : (start : ℤ) (fills : List Fill) → IsStartingCash start → AreFills fills → length fills ≤ most_fills → IsMoney (cash start fills)
cash_money start fills s r few = money (cash start fills) (cash_small start fills s r few)

pub fees_money : (fills : List Fill) → AreFills fills → length fills ≤ most_fills → IsMoney (fees fills)
fees_money fills r few = money (fees fills) (fees_small fills r few)

pub realised_money : (fills : List Fill) → AreFills fills → length fills ≤ most_fills → IsMoney (realised fills)
realised_money fills r few = money (realised fills) (realised_small fills r few)

pub equity_money : (start : ℤ) (fills : List Fill) (marks : List Mark) → IsStartingCash start → AreFills fills → AreMarks marks → length fills ≤ most_fills
    → IsMoney (equity start fills marks)
equity_money start fills marks s r m few =
    at_most most_money (equity start fills marks)
    (omega (arith, abs_add_le (cash start fills) (worth fills marks), cash_small start fills s r few, worth_small fills marks r m few))

pub gross_money : (fills : List Fill) (marks : List Mark) → AreFills fills → AreMarks marks → length fills ≤ most_fills → IsMoney (gross fills marks)
gross_money fills marks r m few = money (gross fills marks) (gross_small fills marks r m few)

pub others_money : (symbol : List ℕ) (fills : List Fill) (marks : List Mark) → AreFills fills → AreMarks marks → length fills ≤ most_fills
    → IsMoney (gross_without symbol fills marks)
others_money symbol fills marks r m few = money (gross_without symbol fills marks) (others_small symbol fills marks r m few)

pub position_range : (symbol : List ℕ) (fills : List Fill) → AreFills fills → length fills ≤ most_fills → IsPosition (position symbol fills)
position_range symbol fills r few =
    at_most most_position (position symbol fills)
    (subst (λ n. unsigned_abs n ≤ most_position) (lot-position (fills_of symbol fills)) (position_small symbol fills r few))
