-- The digits stand up to the end of the line.
use Rattle.std.proofs.Common.{◌≡◌, [], true, nat_le, drop, arith}
use Rattle.std.proofs.lemmas.Bool.Decides.{nat_tests}
use Rattle.lean_fixed.specs.Fields.{fields}
use Rattle.lean_fixed.specs.Ranges.{most_volume}
use Rattle.equity_csv.specs.Rows.{volume_in}
use Rattle.equity_csv.proofs.StepLemmas.{kept, last_said, leading-through}
use Rattle.equity_csv.proofs.plain.last_volume.Goals as goal

pub returns-clause-read : goal.returns-clause-read
returns-clause-read c =
    let said = c.read_digits-end.ensures in
    let end = c.read_digits-end.result.0 in
    let volume = c.read_digits-end.result.1 in
    let fits : nat_le volume most_volume ≡ true = grind (arith, nat_tests) in
    leading-through volume_in (fields (drop c.args.at c.args.line.now)) volume volume []
    (last_said c.args.line.now c.args.at end volume c.requires said.end (omega (arith, said.within, c.if-end-line.false)) said.value (omega (arith, said.end, c.if-end-at.false)) (omega (arith, c.if-end-at-gt-MOST_DIGITS.false)))
    (λ field e. kept (λ n. nat_le n most_volume) field volume fits e)
