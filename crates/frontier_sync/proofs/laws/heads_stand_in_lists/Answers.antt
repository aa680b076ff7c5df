use Rattle.frontier_sync.proofs.StandLemmas.{all-step, all-quiet, all-front, all-taken}
use Rattle.frontier_sync.proofs.laws.heads_stand_in_lists.Goals as goal

pub returns-clause-step : goal.returns-clause-step
returns-clause-step c = all-step

pub returns-clause-quiet : goal.returns-clause-quiet
returns-clause-quiet c = all-quiet

pub returns-clause-front : goal.returns-clause-front
returns-clause-front c = all-front

pub returns-clause-taken : goal.returns-clause-taken
returns-clause-taken c = all-taken
