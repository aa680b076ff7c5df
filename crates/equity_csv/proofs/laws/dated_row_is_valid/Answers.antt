use Rattle.lean_fixed.specs.Fields.{fields}
use Rattle.equity_csv.specs.Rows.{dated_row}
use Rattle.equity_csv.proofs.SaidLemmas.{dated-valid, dated-whole, daily-midnight}
use Rattle.equity_csv.proofs.laws.dated_row_is_valid.Goals as goal

pub returns-clause-row : goal.returns-clause-row
unfolding dated_row
returns-clause-row c = λ resolution text row e. dated-valid c.day_prints_back.ensures.range resolution (fields text) row e

pub returns-clause-whole : goal.returns-clause-whole
unfolding dated_row
returns-clause-whole c = λ resolution text row e. dated-whole c.day_prints_back.ensures.range resolution (fields text) row e

pub returns-clause-midnight : goal.returns-clause-midnight
unfolding dated_row
returns-clause-midnight c = λ text row e. daily-midnight c.day_prints_back.ensures.range (fields text) row e
