use Rattle.clock_run.proofs.BarLemmas.{closes-push, fresh-push}
use Rattle.clock_run.proofs.IdleLemmas.{fresh-quiet}
use Rattle.clock_run.proofs.laws.one_bar_more.Goals as goal

pub returns-clause-closes : goal.returns-clause-closes
returns-clause-closes c = closes-push

pub returns-clause-fresh : goal.returns-clause-fresh
returns-clause-fresh c = fresh-push

pub returns-clause-quiet : goal.returns-clause-quiet
returns-clause-quiet c = fresh-quiet
