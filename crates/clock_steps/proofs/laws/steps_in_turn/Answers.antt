use Rattle.clock_steps.proofs.RunLemmas.{before-before, before-behind, before-rests, before-same}
use Rattle.clock_steps.proofs.laws.steps_in_turn.Goals as goal

pub returns-clause-in_turn : goal.returns-clause-in_turn
returns-clause-in_turn g c = before-before

pub returns-clause-behind : goal.returns-clause-behind
returns-clause-behind g c = before-behind

pub returns-clause-rests : goal.returns-clause-rests
returns-clause-rests g c = before-rests

pub returns-clause-same : goal.returns-clause-same
returns-clause-same g c = before-same
