-- One more reply was heard.
use Rattle.std.proofs.Common.{◌<◌, arith}
use Rattle.order_desk.proofs.LinkLemmas.{links-heard}
use Rattle.order_desk.proofs.lane_desking.LaneDeskDesk.hear.Goals as goal

pub returns-in-Ok-clause-stands : goal.returns-in-Ok-clause-stands
returns-in-Ok-clause-stands g c s cs rs linked =
    let d = c.args.self.now in
    let said = c.in-Ok.ensures in
    let due : d.answered < d.submitted = omega (arith, d.within, c.if-self.false) in
    record {
      begun = linked.begun;
      links = links-heard d.submitted d.orders d.answered _ d.told _ _ _ _ _ _ _ c.in-Ok.reply _ s cs rs said.sent due said.passed
          c.tell-reply.ensures c.answered_behind-self.ensures c.told_behind-self.ensures linked.links;
    }
