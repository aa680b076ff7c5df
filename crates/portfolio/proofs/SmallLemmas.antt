-- How large the sums over a million fills become.
use Rattle.std.proofs.Common.{◌≡◌, ℕ, ◌+◌, ◌*◌, ◌<◌, ◌≤◌, Bool, true, false, List, [], ◌∷◌, ◌++◌, length, ℤ, pos, neg_ℤ, ◌+ℤ◌, ◌*ℤ◌, Option, Some, None, refl, sym, ap, ◌∙◌, subst, arith, if◌then◌else◌}
use Rattle.std.specs.Prelude.{unsigned_abs, unwrap_or, option_map, filter, not}
use Rattle.std.proofs.lemmas.Int.{ints, unsigned_abs-mul}
use Rattle.std.proofs.Math.Nat.{mul-le-mul}
use Rattle.lean_fixed.specs.Ranges.{IsAtMost, IsStartingCash, most_position, most_quantity, most_fill_price, most_price, most_fee, most_starting_cash}
use Rattle.lean_orders.specs.declared.event.Fill.{Fill}
use Rattle.lean_orders.specs.Traded.{IsFill}
use Rattle.portfolio.specs.declared.totals.Totals.{Totals}
use Rattle.portfolio.specs.declared.totals.Holding.{Holding}
use Rattle.portfolio.specs.Symbols.{same_symbol, sum_of}
use Rattle.portfolio.specs.Lots.{lot_of}
use Rattle.portfolio.specs.LotRanges.{most_value, most_cost, IsBounded}
use Rattle.portfolio.specs.Sums.{Mark, fills_of, cash, fees, position, realised, last_mark, traded, marked, value_of, gross_of, worth, gross, gross_without, AreFills, AreMarks}
use Rattle.portfolio.specs.Account.{holding_in}
use Rattle.portfolio.specs.Stands.{StandsFor, most_fills}
use Rattle.portfolio.specs.Small.{IsSmall, IsPriced, IsSmallHolding}
use Rattle.portfolio.proofs.Numbers.{abs_le, at_most, abs_add_le, abs_mul_le, abs-neg_ℤ}
use Rattle.portfolio.proofs.LotLemmas.{money_of}
use Rattle.portfolio.proofs.SymbolLemmas.{each_le}
use Rattle.portfolio.proofs.FillLemmas.{total, load, load-is, each_load, value_weight, share_weight, lot_money, lot-position, sum_shares}
use Rattle.std.proofs.lemmas.List.{length-append}
use Rattle.portfolio.specs.Running.{filled_lot}
use Rattle.portfolio.proofs.StandsLemmas.{own_lot, AreFills-append}
use Rattle.portfolio.proofs.MarkLemmas.{price_le, last_priced, IsPricedMark}

-- a sum is at most the number of fills times the most of each
total_le : (w : Fill → ℕ) (most : ℕ) → ((fill : Fill) → IsFill fill → w fill ≤ most) → (fills : List Fill) → AreFills fills → total w fills ≤ length fills * most
total_le w most h [] r = omega arith
total_le w most h (fill ∷ fills) r = omega (arith, h fill r.0, total_le w most h fills r.1)

sum_le : (f : Fill → ℤ) (fills : List Fill) → unsigned_abs (sum_of f fills) ≤ total (λ fill. unsigned_abs (f fill)) fills
sum_le f [] = omega arith
sum_le f (fill ∷ fills) = omega (arith, sum_le f fills, abs_add_le (f fill) (sum_of f fills))

million : (n most : ℕ) → n ≤ most_fills → n * most ≤ most_fills * most
million n most h = mul-le-mul h (omega arith)

value_most : (fill : Fill) → IsFill fill → value_weight fill ≤ most_value
value_most fill r =
    abs_mul_le most_quantity most_fill_price fill.quantity.0 fill.price.0 (abs_le most_quantity fill.quantity.0 r.quantity.1)
    (abs_le most_fill_price fill.price.0 (omega (arith, ints, r.price.0), r.price.1))

fee_most : (fill : Fill) → IsFill fill → unsigned_abs fill.fee.0 ≤ most_fee
fee_most fill r = abs_le most_fee fill.fee.0 (omega (arith, ints, r.fee.0), r.fee.1)

share_most : (fill : Fill) → IsFill fill → share_weight fill ≤ most_quantity
share_most fill r = abs_le most_quantity fill.quantity.0 r.quantity.1

cost_most : (fill : Fill) → IsFill fill → unsigned_abs ((fill.quantity.0 *ℤ fill.price.0) +ℤ fill.fee.0) ≤ most_value + most_fee
cost_most fill r = omega (arith, value_most fill r, fee_most fill r, abs_add_le (fill.quantity.0 *ℤ fill.price.0) fill.fee.0)

pub cash_small : (start : ℤ) (fills : List Fill) → IsStartingCash start → AreFills fills → length fills ≤ most_fills → unsigned_abs (cash start fills) ≤ most_cost
cash_small start fills s r few =
    let cost : Fill → ℤ = λ fill. (fill.quantity.0 *ℤ fill.price.0) +ℤ fill.fee.0 in
    omega (
      arith,
      abs_add_le start (neg_ℤ (sum_of cost fills)),
      abs-neg_ℤ (sum_of cost fills),
      sum_le cost fills,
      total_le (λ fill. unsigned_abs (cost fill)) (most_value + most_fee) cost_most fills r,
      million (length fills) (most_value + most_fee) few,
      abs_le most_starting_cash start (omega (arith, ints, s.0), s.1),
    )

pub fees_small : (fills : List Fill) → AreFills fills → length fills ≤ most_fills → unsigned_abs (fees fills) ≤ most_cost
fees_small fills r few =
    omega (arith, sum_le (λ fill. fill.fee.0) fills, total_le (λ fill. unsigned_abs fill.fee.0) most_fee fee_most fills r, million (length fills) most_fee few)

-- of one symbol
pub money_load : (s : List ℕ) (fills : List Fill) → money_of (lot_of (fills_of s fills)) ≤ load value_weight s fills
money_load s fills = omega (arith, lot_money (fills_of s fills), load-is value_weight s fills)

profit_load : (s : List ℕ) (fills : List Fill) → unsigned_abs (lot_of (fills_of s fills)).profit ≤ load value_weight s fills
profit_load s fills = omega (arith, money_load s fills)

pub realised_small : (fills : List Fill) → AreFills fills → length fills ≤ most_fills → unsigned_abs (realised fills) ≤ most_cost
realised_small fills r few =
    omega (
      arith,
      each_le (λ s. (lot_of (fills_of s fills)).profit) (λ s. load value_weight s fills) (λ s. profit_load s fills) (traded fills),
      each_load value_weight fills (traded fills),
      total_le value_weight most_value value_most fills r,
      million (length fills) most_value few,
    )

-- of one symbol at a price
abbrev gross_weight : Fill → ℕ
gross_weight fill = share_weight fill * most_price

total-times : (fills : List Fill) → total gross_weight fills ≡ total share_weight fills * most_price
total-times [] = refl
total-times (fill ∷ fills) = omega (arith, total-times fills)

pub position_load : (s : List ℕ) (fills : List Fill) → unsigned_abs (position s fills) ≤ load share_weight s fills
position_load s fills = omega (arith, sum_shares (fills_of s fills), load-is share_weight s fills)

gross_load : (s : List ℕ) (fills : List Fill) (marks : List Mark) → AreMarks marks
    → unsigned_abs (position s fills) * unsigned_abs (unwrap_or (last_mark s marks) (pos 0)) ≤ load gross_weight s fills
gross_load s fills marks m =
    omega (arith, mul-le-mul (sum_shares (fills_of s fills)) (price_le s marks m), total-times (fills_of s fills), load-is gross_weight s fills)

gross_most : (fill : Fill) → IsFill fill → gross_weight fill ≤ most_quantity * most_price
gross_most fill r = omega (arith, share_most fill r)

pub worth_small : (fills : List Fill) (marks : List Mark) → AreFills fills → AreMarks marks → length fills ≤ most_fills → unsigned_abs (worth fills marks) ≤ most_cost
worth_small fills marks r m few =
    omega (
      arith,
      each_le (value_of fills marks) (λ s. load gross_weight s fills)
          (λ s. rw (unsigned_abs-mul (position s fills) (unwrap_or (last_mark s marks) (pos 0))) (gross_load s fills marks m)) (marked marks),
      each_load gross_weight fills (marked marks),
      total_le gross_weight (most_quantity * most_price) gross_most fills r,
      million (length fills) (most_quantity * most_price) few,
    )

pub gross_small : (fills : List Fill) (marks : List Mark) → AreFills fills → AreMarks marks → length fills ≤ most_fills → unsigned_abs (gross fills marks) ≤ most_cost
gross_small fills marks r m few =
    omega (
      arith,
      each_le (gross_of fills marks) (λ s. load gross_weight s fills)
          (λ s. rw (unsigned_abs-mul (pos (unsigned_abs (position s fills))) (unwrap_or (last_mark s marks) (pos 0))) (gross_load s fills marks m)) (marked marks),
      each_load gross_weight fills (marked marks),
      total_le gross_weight (most_quantity * most_price) gross_most fills r,
      million (length fills) (most_quantity * most_price) few,
    )

-- of all
load_le : (w : Fill → ℕ) (s : List ℕ) (fills : List Fill) → load w s fills ≤ total w fills
load_le w s [] = omega arith
load_le w s (fill ∷ fills) = step (same_symbol s fill.symbol) (w fill) (load w s fills) (total w fills) (load_le w s fills)
  where
    step : (b : Bool) (n l t : ℕ) → l ≤ t → (if b then n else 0) + l ≤ n + t
    step true n l t h = omega arith
    step false n l t h = omega arith

pub others_small : (s : List ℕ) (fills : List Fill) (marks : List Mark) → AreFills fills → AreMarks marks → length fills ≤ most_fills
    → unsigned_abs (gross_without s fills marks) ≤ most_cost
others_small s fills marks r m few =
    let others : List (List ℕ) = filter (λ other. not (same_symbol s other)) (marked marks) in
    omega (
      arith,
      each_le (gross_of fills marks) (λ s. load gross_weight s fills)
          (λ s. rw (unsigned_abs-mul (pos (unsigned_abs (position s fills))) (unwrap_or (last_mark s marks) (pos 0))) (gross_load s fills marks m)) others,
      each_load gross_weight fills others,
      total_le gross_weight (most_quantity * most_price) gross_most fills r,
      million (length fills) (most_quantity * most_price) few,
    )

pub totals_small : (totals : Totals) (entries : List (List ℕ × Holding)) (start : ℤ) (fills : List Fill) (marks : List Mark)
    → StandsFor (record { totals = totals; entries = entries }) start fills marks → IsSmall totals
totals_small totals entries start fills marks stands =
    record {
      cash = subst (IsAtMost most_cost) (sym stands.cash)
          (at_most most_cost (cash start fills) (cash_small start fills stands.start_range stands.fills_range stands.few));
      fees = subst (IsAtMost most_cost) (sym stands.fees) (at_most most_cost (fees fills) (fees_small fills stands.fills_range stands.few));
      realised = subst (IsAtMost most_cost) (sym stands.realised) (at_most most_cost (realised fills) (realised_small fills stands.fills_range stands.few));
      value = subst (IsAtMost most_cost) (sym stands.value)
          (at_most most_cost (worth fills marks) (worth_small fills marks stands.fills_range stands.marks_range stands.few));
      gross = subst (IsAtMost most_cost) (sym stands.gross)
          (at_most most_cost (gross fills marks) (gross_small fills marks stands.fills_range stands.marks_range stands.few));
      fills = omega (arith, stands.count, stands.few);
    }

pub position_small : (s : List ℕ) (fills : List Fill) → AreFills fills → length fills ≤ most_fills → unsigned_abs (lot_of (fills_of s fills)).position ≤ most_position
position_small s fills r few =
    subst (λ n. unsigned_abs n ≤ most_position) (sym (lot-position (fills_of s fills)))
    (omega (
      arith,
      position_load s fills,
      load_le share_weight s fills,
      total_le share_weight most_quantity share_most fills r,
      million (length fills) most_quantity few,
    ))

lot_small : (s : List ℕ) (fills : List Fill) → AreFills fills → length fills ≤ most_fills → IsBounded (lot_of (fills_of s fills))
lot_small s fills r few =
    let money : money_of (lot_of (fills_of s fills)) ≤ most_cost =
    omega (
      arith,
      money_load s fills,
      load_le value_weight s fills,
      total_le value_weight most_value value_most fills r,
      million (length fills) most_value few,
    ) in
    record {
      position = at_most most_position (lot_of (fills_of s fills)).position (position_small s fills r few);
      cost = at_most most_cost (lot_of (fills_of s fills)).cost (omega (arith, money));
      profit = at_most most_cost (lot_of (fills_of s fills)).profit (omega (arith, money));
    }

pub holding_small : (totals : Totals) (entries : List (List ℕ × Holding)) (start : ℤ) (fills : List Fill) (marks : List Mark)
    → StandsFor (record { totals = totals; entries = entries }) start fills marks → (s : List ℕ) → IsSmallHolding (holding_in entries s)
holding_small totals entries start fills marks stands s =
    subst IsSmallHolding (sym (stands.holdings s))
    (record { lot = lot_small s fills stands.fills_range stands.few; price = priced (last_mark s marks) (last_priced s marks stands.marks_range) })
  where
    priced : (o : Option ℤ) → IsPricedMark o → IsPriced (option_map (λ price. record { 0 = price }) o)
    priced None h = tt
    priced (Some price) h = h

-- the lot that a fill makes is small too
pub filled_bounded : (totals : Totals) (entries : List (List ℕ × Holding)) (start : ℤ) (fills : List Fill) (marks : List Mark) (fill : Fill)
    → StandsFor (record { totals = totals; entries = entries }) start fills marks → IsFill fill → totals.fills < most_fills
    → IsBounded (filled_lot (holding_in entries fill.symbol).lot fill)
filled_bounded totals entries start fills marks fill stands range few =
    let e : lot_of (fills_of fill.symbol (fills ++ fill ∷ [])) ≡ filled_lot (holding_in entries fill.symbol).lot fill =
    own_lot fills fill ∙ ap (λ h. let h : Holding = h in filled_lot h.lot fill) (sym (stands.holdings fill.symbol)) in
    subst IsBounded e
    (lot_small fill.symbol (fills ++ fill ∷ []) (AreFills-append fills fill stands.fills_range range)
    (omega (arith, stands.count, length-append fills (fill ∷ []))))
