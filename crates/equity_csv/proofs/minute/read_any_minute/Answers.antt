use Rattle.std.proofs.Common.{◌∙◌, Err, ap, unsigned_abs}
use Rattle.lean_fixed.specs.Fields.{fields}
use Rattle.equity_csv.specs.Rows.{minute_start, minute_row}
use Rattle.equity_csv.proofs.ValueLemmas.{timed, untimed}
use Rattle.equity_csv.proofs.minute.read_any_minute.Goals as goal

pub returns-in-Some : goal.returns-in-Some
unfolding minute_row
returns-in-Some c =
    c.read_any_values.ensures
    ∙ timed (minute_start (unsigned_abs c.args.day.0)) (fields c.args.text.now) c.in-Some.time.number (fields c.in-Some.time.behind.now) c.in-Some.ensures.read

pub returns-in-None : goal.returns-in-None
unfolding minute_row
returns-in-None c =
    ap (λ r. Err r) c.without_start.ensures
    ∙ untimed (minute_start (unsigned_abs c.args.day.0)) (fields c.args.text.now) c.in-None.ensures.read
