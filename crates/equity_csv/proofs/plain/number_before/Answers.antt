-- The digits stand in a window of the line, and a comma behind them.
use Rattle.std.proofs.Common.{arith}
use Rattle.equity_csv.proofs.StepLemmas.{number_said}
use Rattle.equity_csv.proofs.plain.number_before.Goals as goal

pub returns-clause-read : goal.returns-clause-read
returns-clause-read c =
    let said = c.read_digits-end.ensures in
    number_said c.args.line.now c.args.at c.args.limit c.read_digits-end.result.0 c.read_digits-end.result.1
    c.requires.order c.requires.within c.requires.few said.end said.within said.value (omega (arith, said.end, c.if-end-at.false)) c.if-line-end-ne44.false
