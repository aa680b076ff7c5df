use Rattle.std.proofs.Common.{◌∙◌, sym, ap, subst}
use Rattle.feed_queue.specs.Lanes.{taken_of, left_of, sent_of, lane_of}
use Rattle.feed_workers.specs.Seats.{Unseated}
use Rattle.feed_workers.proofs.FollowLemmas.{run-lane, unseated}
use Rattle.feed_workers.proofs.seat.Seat.close.Goals as goal

pub settle-requires : goal.settle-requires
settle-requires g c =
    let seat = c.args.self in
    ap lane_of c.into_parts-parts.ensures.out ∙ run-lane seat.origin.value c.args.turn c.requires ∙ sym seat.lane

pub returns : goal.returns
returns g c =
    let seat = c.args.self in
    let is = ap sent_of (sym c.into_parts-parts.ensures.out) ∙ c.settle.ensures.rest in
    subst (λ f. Unseated seat.origin.value (taken_of seat.reader) f) (sym c.into_parts-parts.ensures.feed)
    (unseated seat.origin.value c.args.turn (taken_of seat.reader) (left_of c.settle.result.rest) c.requires is)
