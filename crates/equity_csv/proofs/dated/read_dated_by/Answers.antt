use Rattle.std.proofs.Common.{◌∙◌, Err, ap, drop}
use Rattle.lean_fixed.specs.Fields.{fields}
use Rattle.equity_csv.specs.Rows.{dated_start, dated_row}
use Rattle.equity_csv.proofs.ValueLemmas.{timed, untimed}
use Rattle.equity_csv.proofs.dated.read_dated_by.Goals as goal

pub returns-in-Some : goal.returns-in-Some
unfolding dated_row
returns-in-Some c =
    c.read_values.ensures
    ∙ timed (dated_start c.args.resolution) (fields c.args.text.now) c.in-Some.start (fields (drop 15 c.args.text.now)) c.in-Some.ensures.read

pub returns-in-None : goal.returns-in-None
unfolding dated_row
returns-in-None c =
    ap (λ r. Err r) c.without_start.ensures
    ∙ untimed (dated_start c.args.resolution) (fields c.args.text.now) c.in-None.ensures.read
