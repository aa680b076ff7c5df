-- The buying power rule. All money is in 1/10000 dollar.
use Rattle.std.specs.Prelude.{◌≤◌, int_le, ℕ, ℤ, pos, unsigned_abs, ◌+ℤ◌, ◌*ℤ◌, Bool, ◌||◌, nat_le}
use Rattle.lean_fixed.specs.Ranges.{IsPrice, IsQuantity, IsPosition, IsFee, IsMoney}
use Rattle.buying_power.specs.declared.power.Power.{Power}

-- the shares that are held or owed once the order is filled
abbrev pub shares_after : Power → ℕ
shares_after power = unsigned_abs (power.held.0 +ℤ power.quantity.0)

-- what is then held or owed in all, and the fee
abbrev pub needed : Power → ℤ
needed power = power.gross_others.0 +ℤ (pos (shares_after power) *ℤ power.price.0) +ℤ power.fee.0

-- An order is allowed where it does not enlarge the position,
-- or where all positions and the fee are within the leverage times the equity.
abbrev pub allows : Power → Bool
allows power =
    nat_le (shares_after power) (unsigned_abs power.held.0)
    || int_le (needed power) (pos power.leverage *ℤ power.equity.0)

-- the numbers of a question
pub record IsPower (power : Power) : Type 0 where
  pub equity : IsMoney power.equity.0
  pub gross_others : IsMoney power.gross_others.0
  pub held : IsPosition power.held.0
  pub price : IsPrice power.price.0
  pub quantity : IsQuantity power.quantity.0
  pub leverage : (1 ≤ power.leverage) × (power.leverage ≤ 100)
  pub fee : IsFee power.fee.0
