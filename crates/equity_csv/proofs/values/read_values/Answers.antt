use Rattle.std.proofs.Common.{◌∙◌, [], drop, sym}
use Rattle.lean_fixed.specs.Fields.{fields}
use Rattle.equity_csv.specs.Reading.{priced}
use Rattle.equity_csv.proofs.ValueLemmas.{priced_row}
use Rattle.equity_csv.proofs.values.read_values.Goals as goal

pub returns-in-Some : goal.returns-in-Some
returns-in-Some c =
    let p = c.in-Some.values in
    let said = c.in-Some.ensures.read in
    c.plain_row.ensures ∙ priced_row c.args.start (fields (drop c.args.at c.args.line.now)) (priced p.opening p.high p.low p.closing said.0) p.volume [] (sym said.1) (sym said.2)
