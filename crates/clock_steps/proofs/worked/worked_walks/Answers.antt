use Rattle.std.proofs.Common.{refl}
use Rattle.clock_steps.specs.Walks.{walk}
use Rattle.clock_steps.proofs.worked.worked_walks.Goals as goal

pub returns-clause-some : goal.returns-clause-some
unfolding walk
returns-clause-some c = refl

pub returns-clause-none : goal.returns-clause-none
unfolding walk
returns-clause-none c = refl

pub returns-clause-past : goal.returns-clause-past
unfolding walk
returns-clause-past c = refl
