-- Which commands may be given to a book: their numbers are in their ranges, and there are not too many orders. What is asked
-- for by a request or an update may be any number, since the book itself tests it.
use Rattle.std.specs.Prelude.{◌≡◌, ℕ, ◌<◌}
use Rattle.lean_fixed.specs.Ranges.{IsMoment, IsPrice, IsVolume}
use Rattle.lean_orders.specs.declared.desk.PriceBar.{PriceBar}
use Rattle.lean_orders.specs.declared.desk.Command.{Command}
use Rattle.lean_orders.specs.declared.desk.Command.TheVariants.{Mark, Match, Submit, Update, Cancel, Account}

-- the most orders that are submitted to a book
abbrev pub most_orders : ℕ
most_orders = 1000000

-- the numbers of a bar are in their ranges
pub record IsPriceBar (bar : PriceBar) : Type 0 where
  pub start : IsMoment bar.start.0
  pub «end» : IsMoment bar.end.0
  pub opening : IsPrice bar.opening.0
  pub high : IsPrice bar.high.0
  pub low : IsPrice bar.low.0
  pub closing : IsPrice bar.closing.0
  pub volume : IsVolume bar.volume.0

-- a command's moment is in its range, and so are the numbers of a mark's bar
abbrev pub IsFitting : Command → Type 0
IsFitting (Mark at symbol bar) = IsMoment at.0 × IsPriceBar bar
IsFitting (Match at) = IsMoment at.0
IsFitting (Submit at request) = IsMoment at.0
IsFitting (Update at id price) = IsMoment at.0
IsFitting (Cancel at id) = IsMoment at.0
IsFitting (Account at) = IsMoment at.0

-- how many orders a command adds
abbrev pub submits : Command → ℕ
submits (Mark at symbol bar) = 0
submits (Match at) = 0
submits (Submit at request) = 1
submits (Update at id price) = 0
submits (Cancel at id) = 0
submits (Account at) = 0

-- a command that adds an order may come where fewer than the most were submitted before it
abbrev pub HasRoom : ℕ → Command → Type 0
HasRoom orders command = submits command ≡ 1 → orders < most_orders
