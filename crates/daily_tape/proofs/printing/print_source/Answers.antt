-- A head that stands at the step is printed, and one that does not is past it.
use Rattle.std.proofs.Common.{rules}
use Rattle.daily_tape.specs.Head.{StandsPast}
use Rattle.daily_tape.proofs.FollowLemmas.{follows-past}
use Rattle.daily_tape.proofs.printing.print_source.Goals as goal

pub returns-then-step_of_row-step-clause-follows : goal.returns-then-step_of_row-step-clause-follows
returns-then-step_of_row-step-clause-follows g c f k security lt follows =
    let past : StandsPast c.args.step c.args.source.now.head = search rules in
    follows-past g.H.Hand.files g.H.Hand.rest f k security c.args.step c.args.source.now lt past follows

pub returns-in-Ok-clause-follows : goal.returns-in-Ok-clause-follows
returns-in-Ok-clause-follows g c f k security lt follows = search (rules, c.in-Ok.ensures.follows f k security follows)

pub returns-in-End-clause-follows : goal.returns-in-End-clause-follows
returns-in-End-clause-follows g c f k security lt follows =
    let past : StandsPast c.args.step c.args.source.now.head = search rules in
    follows-past g.H.Hand.files g.H.Hand.rest f k security c.args.step c.args.source.now lt past follows
