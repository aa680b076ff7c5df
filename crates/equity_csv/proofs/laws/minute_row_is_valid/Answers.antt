use Rattle.lean_fixed.specs.Fields.{fields}
use Rattle.equity_csv.specs.Rows.{minute_row}
use Rattle.equity_csv.proofs.SaidLemmas.{minute-valid, minute-of_day}
use Rattle.equity_csv.proofs.laws.minute_row_is_valid.Goals as goal

pub returns-clause-row : goal.returns-clause-row
unfolding minute_row
returns-clause-row c = λ day text row low e. minute-valid day (fields text) row low e

pub returns-clause-day : goal.returns-clause-day
unfolding minute_row
returns-clause-day c = λ day text row e. minute-of_day day (fields text) row e
