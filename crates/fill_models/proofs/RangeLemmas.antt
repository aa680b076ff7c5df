-- The prices and the fees of fills lie in their ranges.
use Rattle.std.proofs.Common.{ℕ, ◌*◌, ◌≤◌, Bool, true, false, Option, Some, None, ℤ, pos, negsuc, ◌*ℤ◌, arith, if◌then◌else◌}
use Rattle.std.specs.Prelude.{int_lt, int_le, ◌||◌, option_and_then, unsigned_abs, IfSome}
use Rattle.std.specs.Int.{int_min, int_max}
use Rattle.std.proofs.lemmas.Int.{ints, clamps}
use Rattle.std.proofs.Math.Nat.{mul-le-mul}
use Rattle.lean_fixed.specs.Ranges.{IsWithin, IsPrice, IsFillPrice, IsQuantity, IsFee, most_quantity}
use Rattle.lean_fixed.specs.declared.money.Price.{Price}
use Rattle.lean_fixed.specs.declared.money.Side.{Side}
use Rattle.lean_fixed.specs.declared.money.Side.TheVariants.{Buy, Sell}
use Rattle.lean_items.specs.declared.bar.Bar.{Bar}
use Rattle.lean_orders.specs.declared.order.Kind.{Kind}
use Rattle.lean_orders.specs.declared.order.Kind.TheVariants.{Market, Limit, Stop, AtOpen, StopLimit}
use Rattle.lean_orders.specs.declared.order.Order.{Order}
use Rattle.trade_costs.specs.declared.costs.Costs.{Costs}
use Rattle.trade_costs.specs.Fees.{IsCosts, fee, slipped}
use Rattle.fill_models.specs.FillPrice.{IsPriced, side_of, limit_price, stop_price, is_tried, triggers, stop_limit_price, table_price, fill_price}

pub slipped_range : (costs : Costs) (price : ℤ) (side : Side) → IsCosts costs → IsPrice price → IsFillPrice (slipped costs price side)
slipped_range costs price Buy c p = (omega (arith, ints, c.slip, p), omega (arith, ints, c.slip, p))
slipped_range costs price Sell c p = (omega (arith, ints, clamps, c.slip, p), omega (arith, ints, clamps, c.slip, p))

greater : (a b : ℤ) → IsFillPrice a → IsFillPrice b → IsFillPrice (int_max a b)
greater a b p q = (omega (arith, ints, clamps, p, q), omega (arith, ints, clamps, p, q))

less : (a b : ℤ) → IsFillPrice a → IsFillPrice b → IsFillPrice (int_min a b)
less a b p q = (omega (arith, ints, clamps, p, q), omega (arith, ints, clamps, p, q))

wider : (a : ℤ) → IsPrice a → IsFillPrice a
wider a p = (p.0, omega (arith, ints, p.1))

-- a price where there is one
if_range : (b : Bool) (price : ℤ) → IsFillPrice price → IfSome (if b then Some price else None) IsFillPrice
if_range true price p = p
if_range false price p = tt

then_range : (asked : Option Price) (f : Price → Option ℤ) → IfSome asked (λ price. IsPrice price.0)
    → ((price : Price) → IsPrice price.0 → IfSome (f price) IsFillPrice) → IfSome (option_and_then f asked) IsFillPrice
then_range None f p all = tt
then_range (Some price) f p all = all price p

test_range : (b : Bool) (price : Option ℤ) → IfSome price IsFillPrice → IfSome (if b then price else None) IsFillPrice
test_range true price p = p
test_range false price p = tt

-- the rows of the fill table
limit_range : (side : Side) (bar : Bar) (limit : ℤ) → IsPriced bar → IsPrice limit → IfSome (limit_price side bar limit) IsFillPrice
limit_range Buy bar limit b p =
    if_range (int_lt bar.low.0 limit) (int_min bar.high.0 limit) (less bar.high.0 limit (wider bar.high.0 b.high) (wider limit p))
limit_range Sell bar limit b p =
    if_range (int_lt limit bar.high.0) (int_max bar.low.0 limit) (greater bar.low.0 limit (wider bar.low.0 b.low) (wider limit p))

stop_range : (side : Side) (bar : Bar) (costs : Costs) (stop : ℤ) → IsPriced bar → IsCosts costs → IsPrice stop
    → IfSome (stop_price side bar costs stop) IsFillPrice
stop_range Buy bar costs stop b c p =
    if_range (int_lt stop bar.high.0) (int_max stop (slipped costs bar.closing.0 Buy))
    (greater stop (slipped costs bar.closing.0 Buy) (wider stop p) (slipped_range costs bar.closing.0 Buy c b.closing))
stop_range Sell bar costs stop b c p =
    if_range (int_lt bar.low.0 stop) (int_min stop (slipped costs bar.closing.0 Sell))
    (less stop (slipped costs bar.closing.0 Sell) (wider stop p) (slipped_range costs bar.closing.0 Sell c b.closing))

stop_limit_range : (side : Side) (bar : Bar) (limit : ℤ) → IsPriced bar → IsPrice limit → IfSome (stop_limit_price side bar limit) IsFillPrice
stop_limit_range Buy bar limit b p =
    if_range (int_lt bar.closing.0 limit) (int_min bar.high.0 limit) (less bar.high.0 limit (wider bar.high.0 b.high) (wider limit p))
stop_limit_range Sell bar limit b p =
    if_range (int_lt limit bar.closing.0) (int_max bar.low.0 limit) (greater bar.low.0 limit (wider bar.low.0 b.low) (wider limit p))

table_range : (kind : Kind) (side : Side) (order : Order) (bar : Bar) (opens : ℤ) (costs : Costs) → IsPriced bar
    → IfSome order.price (λ price. IsPrice price.0) → IfSome order.limit (λ limit. IsPrice limit.0) → IsCosts costs
    → IfSome (table_price kind side order bar opens costs) IsFillPrice
table_range Market side order bar opens costs b p l c = tt
table_range Limit side order bar opens costs b p l c =
    then_range order.price (λ price. limit_price side bar price.0) p (λ price q. limit_range side bar price.0 b q)
table_range Stop side order bar opens costs b p l c =
    then_range order.price (λ price. stop_price side bar costs price.0) p (λ price q. stop_range side bar costs price.0 b c q)
table_range AtOpen side order bar opens costs b p l c =
    if_range (int_le order.placed.0 opens) (slipped costs bar.opening.0 side) (slipped_range costs bar.opening.0 side c b.opening)
table_range StopLimit side order bar opens costs b p l c =
    test_range (order.triggered || triggers order bar) (option_and_then (λ limit. stop_limit_price side bar limit.0) order.limit)
    (then_range order.limit (λ limit. stop_limit_price side bar limit.0) l (λ limit q. stop_limit_range side bar limit.0 b q))

pub fill_range : (order : Order) (bar : Bar) (opens : ℤ) (costs : Costs) → IsPriced bar
    → IfSome order.price (λ price. IsPrice price.0) → IfSome order.limit (λ limit. IsPrice limit.0) → IsCosts costs
    → IfSome (fill_price order bar opens costs) IsFillPrice
fill_range order bar opens costs b p l c =
    test_range (is_tried order bar) (table_price order.kind (side_of order.quantity.0) order bar opens costs)
    (table_range order.kind (side_of order.quantity.0) order bar opens costs b p l c)

-- the fee of a quantity
product_range : (shares : ℕ) (each : ℤ) → shares ≤ most_quantity → IsWithin (pos 0) (pos 1000000) each → IsFee (pos shares *ℤ each)
product_range shares (pos each) few within =
    let little : each ≤ 1000000 = omega (arith, ints, within.1) in
    let most : shares * each ≤ most_quantity * 1000000 = mul-le-mul few little in
    (omega (arith, ints), omega (arith, ints, most))
product_range shares (negsuc each) few within = absurd (omega (arith, ints, within.0))

abs_most : (quantity : ℤ) → IsQuantity quantity → unsigned_abs quantity ≤ most_quantity
abs_most (pos n) q = omega (arith, ints, q.1.1)
abs_most (negsuc n) q = omega (arith, ints, q.1.0)

pub fee_range : (costs : Costs) (quantity : ℤ) → IsCosts costs → IsQuantity quantity → IsFee (fee costs (pos (unsigned_abs quantity)))
fee_range costs quantity c q =
    let product : IsFee (pos (unsigned_abs quantity) *ℤ costs.per_share.0) = product_range (unsigned_abs quantity) costs.per_share.0 (abs_most quantity q) c.per_share in
    greatest costs.least.0 (pos (unsigned_abs quantity) *ℤ costs.per_share.0) c.least product
  where
    greatest : (a b : ℤ) → IsWithin (pos 0) (pos 10000000000) a → IsFee b → IsFee (int_max a b)
    greatest a b p q = (omega (arith, ints, clamps, p, q), omega (arith, ints, clamps, p, q))
