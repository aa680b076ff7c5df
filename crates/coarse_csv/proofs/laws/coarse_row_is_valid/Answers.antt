use Rattle.lean_fixed.specs.Fields.{fields}
use Rattle.coarse_csv.specs.Rows.{coarse_row}
use Rattle.coarse_csv.proofs.RowLemmas.{row-valid}
use Rattle.coarse_csv.proofs.laws.coarse_row_is_valid.Goals as goal

pub returns : goal.returns
unfolding coarse_row
returns c = λ text row e. row-valid (fields text) row e
