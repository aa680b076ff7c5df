-- One item more was sent, or none.
use Rattle.std.proofs.Common.{if◌then◌else◌, subst, arith}
use Rattle.work_scheduler.specs.Turns.{sent_of, SentMore}
use Rattle.work_scheduler.proofs.TurnLemmas.{ran-then, sent-then}
use Rattle.work_scheduler.proofs.turn.Turn.pump.Goals as goal

pub returns-then-not-send_next-clause-ran : goal.returns-then-not-send_next-clause-ran
returns-then-not-send_next-clause-ran g c = ran-then _ _ _ c.loop-sent.invariant.ran c.send_next.ensures.ran

pub loop-sent-preserved : goal.loop-sent-preserved
loop-sent-preserved g c =
    let one : SentMore 1 (sent_of c.loop-sent.self) (sent_of c.send_next.new.self)
    = subst (λ r. SentMore (if r then 1 else 0) (sent_of c.loop-sent.self) (sent_of c.send_next.new.self)) c.if-not-send_next.false c.send_next.ensures.sent in
    record {
      sent = sent-then _ _ _ _ _ c.loop-sent.invariant.sent one;
      few = omega (arith, c.loop-sent-test.true);
      ran = ran-then _ _ _ c.loop-sent.invariant.ran c.send_next.ensures.ran;
    }
