use Rattle.pool_tests.proofs.OpenLemmas.{open-left}
use Rattle.pool_tests.proofs.merging.leave.Goals as goal

pub returns-clause-opened : goal.returns-clause-opened
returns-clause-opened g c =
    rw c.forget.ensures (open-left (g.P.Pool.is_open c.args.pool.now) (g.P.Pool.is_open c.remove.new.self) c.args.feed.0 c.args.heads.now c.remove.ensures.opened c.requires.opened)
