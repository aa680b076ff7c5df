-- The realised profit of the fills of one symbol. Quantities, costs and values are signed: those of shares that are owed
-- are negative. Fees are not in it.
use Rattle.std.specs.Prelude.{ℕ, ◌==◌, nat_le, ℤ, pos, int_le, int_div, unsigned_abs, ◌+ℤ◌, ◌-ℤ◌, ◌*ℤ◌, neg_ℤ, Bool, ◌||◌, ◌&&◌, if◌then◌else◌, List, fold}
use Rattle.lean_orders.specs.declared.event.Fill.{Fill}
use Rattle.portfolio.specs.declared.lot.Lot.{Lot}

abbrev pub no_lot : Lot
no_lot = record { position = pos 0; cost = pos 0; profit = pos 0 }

-- shares that open or enlarge a position add quantity times price to its cost
abbrev pub opened : Lot → ℤ → ℤ → Lot
opened lot quantity price =
    record {
      position = lot.position +ℤ quantity;
      cost = lot.cost +ℤ (quantity *ℤ price);
      profit = lot.profit;
    }

-- The part of a cost that falls to some of the shares: all of it to all of them,
-- and otherwise the cost of one share, cut toward zero, times their number.
abbrev pub part_of : ℤ → ℕ → ℕ → ℤ
part_of cost held shares =
    if shares == held then cost else int_div cost (pos held) *ℤ pos shares

-- Shares that are sold of a position, or bought back, take their part of its cost with them.
-- The profit grows by the value that is received for them, which is negative where they are bought, less that part.
abbrev pub closed : Lot → ℤ → ℤ → Lot
closed lot quantity price =
    let part = part_of lot.cost (unsigned_abs lot.position) (unsigned_abs quantity) in
    record {
      position = lot.position +ℤ quantity;
      cost = lot.cost -ℤ part;
      profit = lot.profit +ℤ (neg_ℤ (quantity *ℤ price) -ℤ part);
    }

-- whether a quantity is on the same side as a position, or there is no position
abbrev pub enlarges : ℤ → ℤ → Bool
enlarges position quantity =
    (int_le (pos 0) position && int_le (pos 0) quantity) || (int_le position (pos 0) && int_le quantity (pos 0))

-- a fill through zero closes first and then opens with the rest
abbrev pub filled : Lot → ℤ → ℤ → Lot
filled lot quantity price =
    if enlarges lot.position quantity then opened lot quantity price
    else if nat_le (unsigned_abs quantity) (unsigned_abs lot.position) then closed lot quantity price
    else opened (closed lot (neg_ℤ lot.position) price) (lot.position +ℤ quantity) price

-- what the fills of one symbol leave, in their order
abbrev pub lot_of : List Fill → Lot
lot_of fills = fold (λ lot fill. filled lot fill.quantity.0 fill.price.0) no_lot fills
