-- An account stands for the list of all fills and the list of all marks.
use Rattle.std.specs.Prelude.{◌≡◌, ◌≤◌, ℕ, ℤ, List, length, option_map}
use Rattle.lean_fixed.specs.Ranges.{IsStartingCash}
use Rattle.lean_orders.specs.declared.event.Fill.{Fill}
use Rattle.portfolio.specs.declared.totals.Holding.{Holding}
use Rattle.portfolio.specs.Lots.{lot_of}
use Rattle.portfolio.specs.Sums.{Mark, fills_of, cash, fees, realised, last_mark, worth, gross, AreFills, AreMarks}
use Rattle.portfolio.specs.Account.{Account, holding_in}

-- the most fills that are applied to a portfolio
abbrev pub most_fills : ℕ
most_fills = 1000000

-- how many fills were applied
abbrev pub fills_applied : Account → ℕ
fills_applied account = account.totals.fills

-- what the fills and the marks leave of a symbol
abbrev pub summed : List ℕ → List Fill → List Mark → Holding
summed symbol fills marks =
    record { lot = lot_of (fills_of symbol fills); price = option_map (λ price. record { 0 = price }) (last_mark symbol marks) }

-- the running totals and all holdings are the sums over the lists, whose numbers are in their ranges
pub record StandsFor (account : Account) (start : ℤ) (fills : List Fill) (marks : List Mark) : Type 0 where
  pub cash : account.totals.cash ≡ cash start fills
  pub fees : account.totals.fees ≡ fees fills
  pub realised : account.totals.realised ≡ realised fills
  pub value : account.totals.value ≡ worth fills marks
  pub gross : account.totals.gross ≡ gross fills marks
  pub count : fills_applied account ≡ length fills
  pub holdings : (symbol : List ℕ) → holding_in account.entries symbol ≡ summed symbol fills marks
  pub start_range : IsStartingCash start
  pub fills_range : AreFills fills
  pub marks_range : AreMarks marks
  pub few : length fills ≤ most_fills

-- a portfolio stands for some lists
pub record IsKept (account : Account) : Type 0 where
  pub start : ℤ
  pub fills : List Fill
  pub marks : List Mark
  pub stands : StandsFor account start fills marks
