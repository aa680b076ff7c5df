-- Of a feed that was added nothing is taken, and its place is the first.
use Rattle.std.proofs.Common.{◌≡◌, ◌++◌, ◌∷◌, [], length, Some, refl, rules}
use Rattle.pool_tests.specs.Places.{Standing, first_place}
use Rattle.pool_tests.specs.Scripts.{items_of}
use Rattle.feed_pool.proofs.EachLemmas.{each-added}
use Rattle.pool_tests.proofs.StandLemmas.{stand-new}
use Rattle.pool_tests.proofs.mem_pool.MemPoolPool.add.Goals as goal

pub returns-clause-stands : goal.returns-clause-stands
returns-clause-stands c start feeds stands =
    let pool = c.args.self.now in
    let items = items_of pool.script in
    let before = start.faults in
    let now = pool.faults.now in
    let count : length pool.places.items ≡ c.len-number.result = search rules in
    let first : c.first_place.result ≡ first_place c.args.key = c.first_place.ensures in
    let pushed : c.push.new.self.items ≡ pool.places.items ++ Some (first_place c.args.key) ∷ [] = search rules in
    record {
      since = stands.since;
      each = rw pushed (each-added (Standing items before now) (Standing items before now) (λ x taken h. h)
          pool.places.items feeds c.len-number.result (Some (first_place c.args.key)) c.args.key count
          (stand-new items before now (first_place c.args.key) (record { key = c.args.key; items = [] }) refl refl)
          stands.each);
      no_hands = stands.no_hands;
    }
