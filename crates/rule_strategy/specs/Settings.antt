-- The settings of a run at the top of the file: its days, its cash and what trades cost.
use Rattle.std.specs.Prelude.{ℕ, ◌+◌, ◌-◌, nat_le, nat_lt, if◌then◌else◌, pos, codes, Some, None, Ok, Err}
use Rattle.toml.specs.Data.{Members}
use Rattle.lean_fixed.specs.declared.money.Money.{Money}
use Rattle.lean_fixed.specs.declared.time.Window.{Window}
use Rattle.trade_costs.specs.declared.costs.Costs.{Costs}
use Rattle.rule_strategy.specs.declared.fault.PlanFault.TheVariants.{Value, Limit}
use Rattle.rule_strategy.specs.declared.settings.Settings.{Settings}
use Rattle.rule_strategy.specs.Answers.{Answer, ◌>>=◌, pure}
use Rattle.rule_strategy.specs.Values.{whole, amount, window_day}
use Rattle.rule_strategy.specs.Tables.{row}

-- an end before its start is wrong, and 20,000 days are the limit
abbrev pub days : ℕ → ℕ → Answer Window
days first last =
    if nat_lt last first then Err (Value (codes "end"))
    else if nat_le (last - first + 1) 20000
    then Ok (record { first = record { 0 = pos first }; last = record { 0 = pos last } })
    else Err (Limit (codes "end"))

unfoldable pub window : Members → Answer Window
window table = do
  first ← row (codes "start") window_day None table
  last ← row (codes "end") window_day None table
  days first last

abbrev pub money : ℕ → Money
money units = record { 0 = pos units }

unfoldable pub costs : Members → Answer Costs
costs table = do
  per_share ← row (codes "fee-per-share") (amount 0 1000000) (Some 0) table
  least ← row (codes "fee-minimum") (amount 0 10000000000) (Some 0) table
  slip ← row (codes "slippage") (whole 0 1000000) (Some 0) table
  pure (record { per_share = money per_share; least = money least; slip = pos slip })

unfoldable pub settings : Members → Answer Settings
settings table = do
  window ← window table
  cash ← row (codes "cash") (amount 1 100000000000000000000) None table
  leverage ← row (codes "leverage") (whole 1 100) (Some 2) table
  costs ← costs table
  pure (record { window = window; cash = money cash; leverage = leverage; costs = costs })
