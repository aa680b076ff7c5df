use Rattle.std.proofs.Common.{◌∙◌, sym, ap}
use Rattle.feed_workers.specs.Shown.{shown}
use Rattle.feed_pool.specs.Crews.{show}
use Rattle.feed_pool.proofs.crewing.unseat.Goals as goal

pub returns-else-is_open : goal.returns-else-is_open
returns-else-is_open g c = record {
  was = shown c.in-Some.seat;
  there = ap show (sym c.take.ensures.value ∙ c.in-Some.is);
  closed = sym c.is_open.ensures ∙ c.if-is_open.false;
  settled = c.settle.ensures;
  gone = ap show c.take.ensures.after;
}
