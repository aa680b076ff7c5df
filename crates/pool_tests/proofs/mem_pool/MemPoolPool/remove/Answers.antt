use Rattle.feed_pool.proofs.EachLemmas.{each-set}
use Rattle.pool_tests.proofs.StandLemmas.{stand-removed}
use Rattle.pool_tests.specs.Scripts.{items_of}
use Rattle.pool_tests.specs.Places.{Standing}
use Rattle.std.proofs.Common.{None, arith, get_or}
use Rattle.pool_tests.proofs.mem_pool.MemPoolPool.remove.Goals as goal

pub returns-then-place-len-clause-stands : goal.returns-then-place-len-clause-stands
returns-then-place-len-clause-stands c start feeds stands =
    let pool = c.args.self.now in
    let items = items_of pool.script in
    let before = start.faults in
    let now = pool.faults.now in
    record {
      since = stands.since;
      each = each-set (Standing items before now) (Standing items before now) (λ x taken h. h) pool.places.items feeds c.args.feed.0 None (omega (arith, pool.places.ok.0))
          (λ taken h. stand-removed items before now (get_or pool.places.items c.args.feed.0 None) taken h) stands.each;
      no_hands = stands.no_hands;
    }
