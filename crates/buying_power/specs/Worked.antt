-- Questions of an account, small enough to compute the rule on.
use Rattle.std.specs.Prelude.{ℤ, pos}
use Rattle.buying_power.specs.declared.power.Power.{Power}

-- an equity of 1,000, others of 499, a price of 10, a leverage of 2 and a fee of 1
abbrev pub asked : ℤ → ℤ → Power
asked held quantity =
    record {
      equity = record { 0 = pos 1000 };
      gross_others = record { 0 = pos 499 };
      held = record { 0 = held };
      price = record { 0 = pos 10 };
      quantity = record { 0 = quantity };
      leverage = 2;
      fee = record { 0 = pos 1 };
    }
