use Rattle.lean_top.specs.Command.{command}
use Rattle.lean_top.proofs.AheadLemmas.{printed_same, printed_front}
use Rattle.lean_top.proofs.laws.no_look_ahead.Goals as goal

pub returns-clause-same : goal.returns-clause-same
returns-clause-same c = printed_same c.plans_are_valid.ensures

pub returns-clause-front : goal.returns-clause-front
returns-clause-front c files words path workers t is =
    printed_front c.no_look_ahead.ensures.front t files path workers (command words) is
