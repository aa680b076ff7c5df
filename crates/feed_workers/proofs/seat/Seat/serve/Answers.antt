-- The turn that is here ran on, or it came home.
use Rattle.std.proofs.Common.{◌≡◌, [], ◌∷◌, take, ap, sym, subst}
use Rattle.rtrb.specs.Ring.{received}
use Rattle.feed_workers.specs.Seats.{turn_at}
use Rattle.feed_workers.proofs.HomeLemmas.{here-then, here-came, first-append}
use Rattle.feed_workers.proofs.seat.Seat.serve.Goals as goal

pub invariant_of-self : goal.invariant_of-self
invariant_of-self g c =
    let seat = c.args.self.now in record {
      few = seat.few;
      known = seat.known;
      lane = seat.lane;
      mine = λ turn is. here-then seat.origin.value c.in-Ready.away.turn c.pump.new.self.turn turn (seat.mine c.in-Ready.away.turn (ap turn_at c.in-Ready.is)) c.pump.ensures is;
    }

pub invariant_of-self-in-Home : goal.invariant_of-self-in-Home
invariant_of-self-in-Home g c =
    let seat = c.args.self.now in record {
      few = seat.few;
      known = seat.known;
      lane = seat.lane;
      mine = λ turn is. here-then seat.origin.value c.in-Home.turn c.pump-in-Home.new.self turn (seat.mine c.in-Home.turn (ap turn_at c.in-Home.is)) c.pump-in-Home.ensures.ran is;
    }

pub invariant_of-self-in-Ok : goal.invariant_of-self-in-Ok
invariant_of-self-in-Ok g c =
    let seat = c.args.self.now in
    let came = c.in-Ok.ensures in
    record {
      few = seat.few;
      known = subst (λ l. take 1 l ≡ seat.origin.value ∷ []) (sym came.ok.0) (first-append seat.origin.value (received seat.home) (c.in-Ok.turn ∷ []) seat.known);
      lane = seat.lane;
      mine = λ turn is. here-came seat.origin.value c.in-Ok.turn turn (received seat.home) seat.known came.ok.2 is;
    }
