-- Costs to compute fees and slippage on.
use Rattle.std.specs.Prelude.{pos}
use Rattle.trade_costs.specs.declared.costs.Costs.{Costs}

-- half a cent a share, at least a dollar, and a slip of 2
abbrev pub usual_costs : Costs
usual_costs = record { per_share = record { 0 = pos 50 }; least = record { 0 = pos 10000 }; slip = pos 2 }
