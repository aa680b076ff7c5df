use Rattle.frontier_sync.specs.Heads.{arrival}
use Rattle.frontier_sync.proofs.PlaceLemmas.{rising-set}
use Rattle.frontier_sync.proofs.heads.Heads.set.Goals as goal

pub invariant_of-self : goal.invariant_of-self
invariant_of-self c =
    (rising-set (arrival c.args.feed c.args.item) c.self.inside.heads.items c.put.new.heads.items c.put.result c.self.invariant.0 c.put.ensures.ok c.put.ensures.err, tt)
