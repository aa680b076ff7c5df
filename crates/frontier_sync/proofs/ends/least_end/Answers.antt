use Rattle.frontier_sync.proofs.FrontierLemmas.{frontier-more}
use Rattle.frontier_sync.proofs.ends.least_end.Goals as goal

pub loop-head-preserved : goal.loop-head-preserved
loop-head-preserved c =
    rw c.earlier-least.ensures
    (frontier-more c.args.heads.now c.loop-head.head-index c.head-item.result c.loop-head.least c.end_of.result c.loop-head-test.true c.head-item.is
    c.loop-head.invariant c.end_of.ensures)
