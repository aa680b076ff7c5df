-- How the running totals change with a mark and with a fill.
use Rattle.std.specs.Prelude.{◌+◌, ℤ, pos, unsigned_abs, ◌+ℤ◌, ◌-ℤ◌, ◌*ℤ◌, Option, Some, None}
use Rattle.lean_fixed.specs.declared.money.Price.{Price}
use Rattle.lean_orders.specs.declared.event.Fill.{Fill}
use Rattle.portfolio.specs.declared.lot.Lot.{Lot}
use Rattle.portfolio.specs.declared.totals.Totals.{Totals}
use Rattle.portfolio.specs.declared.totals.Holding.{Holding}
use Rattle.portfolio.specs.Lots.{filled}

-- the price, or 0 where there is none
abbrev pub price_or_zero : Option Price → ℤ
price_or_zero None = pos 0
price_or_zero (Some price) = price.0

-- what a position is worth
abbrev pub value_at : ℤ → ℤ → ℤ
value_at position price = position *ℤ price

abbrev pub gross_at : ℤ → ℤ → ℤ
gross_at position price = pos (unsigned_abs position) *ℤ price

-- a holding is worth something else from now on
abbrev pub revalued : Totals → ℤ → ℤ → ℤ → ℤ → Totals
revalued totals position price new_position new_price =
    record totals {
      value = totals.value -ℤ value_at position price +ℤ value_at new_position new_price;
      gross = totals.gross -ℤ gross_at position price +ℤ gross_at new_position new_price;
    }

-- after a mark
abbrev pub marked_totals : Totals → Holding → ℤ → Totals
marked_totals totals holding price =
    revalued totals holding.lot.position (price_or_zero holding.price) holding.lot.position price

-- after a fill
abbrev pub paid : Totals → Lot → Lot → Fill → Totals
paid totals before after fill =
    record totals {
      cash = totals.cash -ℤ ((fill.quantity.0 *ℤ fill.price.0) +ℤ fill.fee.0);
      fees = totals.fees +ℤ fill.fee.0;
      realised = totals.realised -ℤ before.profit +ℤ after.profit;
      fills = totals.fills + 1;
    }

abbrev pub filled_lot : Lot → Fill → Lot
filled_lot lot fill = filled lot fill.quantity.0 fill.price.0

abbrev pub applied_totals : Totals → Holding → Fill → Totals
applied_totals totals holding fill =
    let price = price_or_zero holding.price in
    revalued (paid totals holding.lot (filled_lot holding.lot fill) fill)
    holding.lot.position price (filled_lot holding.lot fill).position price
