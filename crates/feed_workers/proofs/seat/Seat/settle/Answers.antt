use Rattle.std.proofs.Common.{subst}
use Rattle.feed_queue.specs.Lanes.{taken_of}
use Rattle.feed_workers.specs.Seats.{Unseated}
use Rattle.feed_workers.proofs.seat.Seat.settle.Goals as goal

pub returns : goal.returns
returns g c =
    let e = c.close.ensures in
    let was = c.turn_home-turn.ensures in
    subst (λ o. Unseated o (taken_of c.args.self.reader) c.close.result) was.origin
    (subst (λ r. Unseated c.turn_home-turn.new.self.origin.value (taken_of r) c.close.result) was.reader e)
