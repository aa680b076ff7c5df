use Rattle.std.proofs.Common.{arith}
use Rattle.equity_csv.proofs.TimeLemmas.{dated-not_timed, dated-either}
use Rattle.equity_csv.proofs.dated.take_start.Goals as goal
use Rattle.equity_csv.proofs.dated.take_start.Goals.{then-text-le-TIME-via-then-text-le-TIME, then-text-le-TIME-via-else-text-le-TIME+then-text-ne44}

pub returns-then-text-le-TIME-clause-read : goal.returns-then-text-le-TIME-clause-read
returns-then-text-le-TIME-clause-read c =
    dated-not_timed c.args.resolution c.args.text.now (λ t.
    elim c.then-text-le-TIME.branch [
      | then-text-le-TIME-via-then-text-le-TIME w ↦ omega (arith, t.within)
      | then-text-le-TIME-via-else-text-le-TIME+then-text-ne44 w ↦ w.if-text-ne44.true t.comma
    ])

pub returns-clause-read : goal.returns-clause-read
returns-clause-read c = dated-either c.args.resolution c.args.text.now c.dated_start.result (omega arith) c.if-text-ne44.false c.dated_start.ensures.read
