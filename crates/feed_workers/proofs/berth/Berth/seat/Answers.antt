use Rattle.std.proofs.Common.{sym, subst}
use Rattle.work_scheduler.specs.Turns.{Stands}
use Rattle.feed_workers.proofs.berth.Berth.seat.Goals as goal

pub returns-clause-stands : goal.returns-clause-stands
returns-clause-stands g c told leaves =
    subst (λ t. Stands told (g.G.Feed.faults c.args.feed) t) (sym c.open_seat.ensures.origin) (c.new.ensures.stands told leaves)
