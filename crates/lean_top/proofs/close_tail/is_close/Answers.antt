-- Something else stands behind the moment.
use Rattle.lean_top.proofs.KeptLemmas.{other_line}
use Rattle.lean_top.proofs.close_tail.is_close.Goals as goal

pub returns-in-None : goal.returns-in-None
returns-in-None c = other_line c.args.line.now c.as_slice.result.now c.as_slice.ensures c.in-None.ensures.cases
