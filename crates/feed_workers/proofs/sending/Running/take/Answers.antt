use Rattle.std.proofs.Common.{ap, ◌∙◌}
use Rattle.feed_queue.specs.Lanes.{sent_of}
use Rattle.feed_workers.specs.Errands.{brought}
use Rattle.feed_workers.proofs.ErrandLemmas.{one-more, came-back}
use Rattle.feed_workers.proofs.sending.Running.take.Goals as goal

pub returns-in-Ok : goal.returns-in-Ok
returns-in-Ok g c = one-more (sent_of c.args.self.now.errands) (sent_of c.push.new.self) c.args.feed c.args.away c.in-Ok.ensures.sent

pub returns-in-Err : goal.returns-in-Err
returns-in-Err g c = came-back c.turn_of.result c.args.away _ (c.turn_of.ensures ∙ ap brought c.in-Err.ensures.sent.0)
