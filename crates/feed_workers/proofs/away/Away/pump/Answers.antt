use Rattle.rtrb.specs.Ring.{sent}
use Rattle.feed_workers.proofs.HomeLemmas.{from-then}
use Rattle.feed_workers.proofs.away.Away.pump.Goals as goal

pub invariant_of-self : goal.invariant_of-self
invariant_of-self g c = record {
  fits = from-then (sent c.args.self.now.home) c.args.self.now.turn c.pump.new.self c.args.self.now.fits c.pump.ensures.ran;
  room = c.args.self.now.room;
}
