use Rattle.std.proofs.Common.{◌<◌, length, arith, sym}
use Rattle.std.proofs.lemmas.Bool.Decides.{nat_tests}
use Rattle.std.proofs.lemmas.List.{take_rest}
use Rattle.lean_fixed.specs.Fields.{fields}
use Rattle.equity_csv.specs.Reading.{number_up_to}
use Rattle.equity_csv.proofs.FieldLemmas.{first_of-leading}
use Rattle.equity_csv.proofs.number.take_number.Goals as goal

pub returns-clause-read : goal.returns-clause-read
returns-clause-read c =
    let behind = c.in_ok-leading.leading.behind.now in
    let more : 0 < length behind = grind (arith, nat_tests) in
    rw take_rest (sym (first_of-leading (number_up_to c.args.most) (fields c.args.text.now) c.in_ok-leading.leading.number behind more (sym c.in_ok-leading.ensures.read)))
