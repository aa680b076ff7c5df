use Rattle.rtrb.specs.Ring.{sent}
use Rattle.feed_workers.proofs.HomeLemmas.{from-then}
use Rattle.feed_workers.proofs.away.Away.room.Goals as goal

pub invariant_of-self : goal.invariant_of-self
invariant_of-self g c = record {
  fits = from-then (sent c.args.self.now.home) c.args.self.now.turn c.room.new.self c.args.self.now.fits c.room.ensures.ran;
  room = c.args.self.now.room;
}
