-- A bar, costs and orders, small enough to compute the fill table on.
use Rattle.std.specs.Prelude.{ℤ, pos, Bool, true, false, [], ◌∷◌, Option, Some, None}
use Rattle.lean_items.specs.declared.bar.Bar.{Bar}
use Rattle.lean_orders.specs.declared.order.Kind.{Kind}
use Rattle.lean_orders.specs.declared.order.Kind.TheVariants.{StopLimit}
use Rattle.lean_orders.specs.declared.order.Order.{Order}
use Rattle.lean_orders.specs.declared.order.OrderState.TheVariants.{Live}
use Rattle.trade_costs.specs.declared.costs.Costs.{Costs}
use Rattle.fill_models.specs.FillPrice.{triggers, fill_price}

-- opening 100, high 110, low 90, closing 105, from minute 600 to 601
abbrev pub usual_bar : Bar
usual_bar =
    record {
      start = record { 0 = pos 600 };
      «end» = record { 0 = pos 601 };
      opening = record { 0 = pos 100 };
      high = record { 0 = pos 110 };
      low = record { 0 = pos 90 };
      closing = record { 0 = pos 105 };
      volume = record { 0 = pos 1 };
      real = true;
    }

-- no fee, and a slip of 2
abbrev pub slip_two : Costs
slip_two = record { per_share = record { 0 = pos 0 }; least = record { 0 = pos 0 }; slip = pos 2 }

-- an order of this kind, quantity and price that was placed at a minute
abbrev pub placed_order : Kind → ℤ → ℤ → ℤ → Order
placed_order kind quantity price placed =
    record {
      id = 1;
      symbol = 83 ∷ [];
      kind = kind;
      quantity = record { 0 = quantity };
      price = Some (record { 0 = price });
      limit = None;
      placed = record { 0 = placed };
      state = Live;
      triggered = false;
    }

-- a stop-limit order of this quantity, stop and limit that was placed at a minute
abbrev pub stop_limit_order : ℤ → ℤ → ℤ → ℤ → Order
stop_limit_order quantity stop limit placed =
    record (placed_order StopLimit quantity stop placed) { limit = Some (record { 0 = limit }) }

abbrev pub triggered_order : ℤ → ℤ → ℤ → ℤ → Order
triggered_order quantity stop limit placed = record (stop_limit_order quantity stop limit placed) { triggered = true }

-- what the usual bar does with it, where the session opens at minute 570
abbrev pub tried : Kind → ℤ → ℤ → ℤ → Option ℤ
tried kind quantity price placed = fill_price (placed_order kind quantity price placed) usual_bar (pos 570) slip_two

-- and with a stop-limit order that was placed at minute 600
abbrev pub tried_stop_limit : ℤ → ℤ → ℤ → Option ℤ
tried_stop_limit quantity stop limit =
    fill_price (stop_limit_order quantity stop limit (pos 600)) usual_bar (pos 570) slip_two

abbrev pub tried_triggered : ℤ → ℤ → ℤ → Option ℤ
tried_triggered quantity stop limit =
    fill_price (triggered_order quantity stop limit (pos 600)) usual_bar (pos 570) slip_two

abbrev pub is_set_off : ℤ → ℤ → ℤ → Bool
is_set_off quantity stop placed = triggers (stop_limit_order quantity stop (pos 1) placed) usual_bar
