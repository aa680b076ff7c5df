use Rattle.std.proofs.Common.{◌-◌, ◌≤◌}
use Rattle.work_scheduler.specs.Turns.{sent_of, RanOn, SentMore}
use Rattle.work_scheduler.proofs.turn.Turn.pump.Given as goal

abbrev pub invariant-loop-sent : goal.invariant-loop-sent
invariant-loop-sent g l = record {
  sent : SentMore l.sent (sent_of l.fn.self) (sent_of l.self);
  few : l.sent ≤ l.batch;
  ran : RanOn l.fn.self l.self;
}

abbrev pub decreases-loop-sent : goal.decreases-loop-sent
decreases-loop-sent g l = l.batch - l.sent
