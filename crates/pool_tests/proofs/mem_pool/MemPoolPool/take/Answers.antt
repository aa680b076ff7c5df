-- One more item was taken of a feed.
use Rattle.std.proofs.Common.{◌≡◌, ◌<◌, get_or, length, Some, None, sym, ◌∙◌, subst, arith}
use Rattle.std.proofs.lemmas.List.{get_or_read}
use Rattle.pool_tests.specs.Places.{Standing, place_behind}
use Rattle.pool_tests.specs.Scripts.{items_of}
use Rattle.feed_pool.proofs.EachLemmas.{each-taken}
use Rattle.pool_tests.proofs.StandLemmas.{stand-later, stand-taken, is-within}
use Rattle.pool_tests.proofs.mem_pool.MemPoolPool.take.Goals as goal

pub returns-clause-stands : goal.returns-clause-stands
returns-clause-stands c start feeds stands =
    let pool = c.args.self.now in
    let items = items_of pool.script in
    let before = start.faults in
    let now = pool.faults.now in
    let later = c.count_fault.new.faults in
    let item = c.at-item.result in
    let within : c.args.feed.0 < length pool.places.items = is-within pool.places.items c.args.feed.0 c.requires in
    let at : get_or pool.places.items c.args.feed.0 None ≡ Some c.in-Some.at
    = sym (get_or_read pool.places.items c.args.feed.0 c.index.result.now within c.index.ensures None) ∙ c.in-Some.is in
    let behind : c.place_behind.result ≡ place_behind item c.in-Some.at = c.place_behind.ensures in
    record {
      since = omega (arith, stands.since, c.count_fault.ensures.grows);
      each = rw behind (each-taken (Standing items before now) (Standing items before later) (stand-later items before now later c.count_fault.ensures.grows)
          pool.places.items feeds c.args.feed.0 (place_behind item c.in-Some.at) item within
          (λ taken h. stand-taken items before now later c.in-Some.at item taken c.at-item.ensures.item stands.since c.count_fault.ensures.grows c.count_fault.ensures.rose
          (subst (λ x. Standing items before now x taken) at h))
          stands.each);
      no_hands = stands.no_hands;
    }
