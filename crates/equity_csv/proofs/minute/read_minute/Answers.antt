use Rattle.std.proofs.Common.{◌+◌, ◌∙◌, ap, drop, sym, unsigned_abs}
use Rattle.lean_fixed.specs.Fields.{fields}
use Rattle.lean_fixed.specs.Moments.{midnight}
use Rattle.equity_csv.specs.Rows.{minute_in, minute_start, minute_row}
use Rattle.equity_csv.proofs.ValueLemmas.{first_of-mapped, row_from, timed}
use Rattle.equity_csv.proofs.minute.read_minute.Goals as goal

pub returns-in-Some : goal.returns-in-Some
unfolding minute_row
returns-in-Some c =
    let day = midnight (unsigned_abs c.args.day.0) in
    let rest = fields (drop 9 c.args.text.now) in
    c.read_values.ensures
    ∙ ap (λ n. row_from (n + c.in-Some.minute) rest) c.first_minute.ensures.value
    ∙ timed (minute_start (unsigned_abs c.args.day.0)) (fields c.args.text.now) (day + c.in-Some.minute) rest (sym (first_of-mapped minute_in (λ m. day + m) (fields c.args.text.now) c.in-Some.minute rest c.in-Some.ensures.read))
