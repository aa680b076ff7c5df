use Rattle.std.proofs.Common.{refl, ap}
use Rattle.feed_workers.specs.Shown.{shown}
use Rattle.feed_pool.specs.Crews.{show}
use Rattle.feed_pool.proofs.crewing.take_of.Goals as goal

pub returns : goal.returns
returns g c = record {
  was = shown c.in-Some.seat;
  is = shown c.take.new.self;
  there = ap show c.in-Some.is;
  still = refl;
  took = c.take.ensures;
}
