use Rattle.std.proofs.Common.{arith}
use Rattle.std.proofs.lemmas.Bool.Decides.{nat_tests}
use Rattle.equity_csv.proofs.CommaLemmas.{length-fields}
use Rattle.equity_csv.proofs.fields.has_fields.Goals as goal

pub returns : goal.returns
returns c = let x = length-fields c.args.text.now in grind (arith, nat_tests)
