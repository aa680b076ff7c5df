-- The next item of the feed is in hand.
use Rattle.std.proofs.Common.{◌≡◌, false, refl, rules}
use Rattle.feed_queue.specs.Lanes.{sent_of as sent_by}
use Rattle.work_scheduler.proofs.ServedLemmas.{served-drawn}
use Rattle.work_scheduler.proofs.turn.Turn.draw.Goals as goal

pub returns-in-None-clause-ran : goal.returns-in-None-clause-ran
returns-in-None-clause-ran g c =
    let feed = g.G.Feed in
    let turn = c.args.self.now in
    let runs : feed.has_ended turn.feed ≡ false = search rules in
    record {
      lane = refl;
      capacity = refl;
      grows = c.next-item.ensures.grows;
      stands = λ told before stands. served-drawn feed.leaves feed.has_ended feed.faults told before turn.feed c.next-item.new.self (sent_by turn.out) turn.held c.next-item.result
          c.in-None.is runs c.next-item.ensures.ended c.next-item.ensures.grows c.next-item.ensures.rose c.next-item.ensures.gives stands;
    }
