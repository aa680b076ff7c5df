-- Nothing was given.
use Rattle.std.proofs.Common.{ap, ◌++◌}
use Rattle.std.specs.Prelude.{None}
use Rattle.work_scheduler.specs.Served.{held_items}
use Rattle.work_scheduler.proofs.ServedLemmas.{served-new}
use Rattle.work_scheduler.proofs.turn.Turn.new.Goals as goal

pub returns-clause-stands : goal.returns-clause-stands
returns-clause-stands g c told tells =
    let feed = g.G.Feed in
    served-new feed.leaves feed.has_ended feed.faults told c.args.feed _ (ap (λ l. l ++ held_items None) c.requires.empty) c.requires.fresh tells
