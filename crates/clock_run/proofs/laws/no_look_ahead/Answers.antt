use Rattle.clock_run.proofs.WorldLemmas.{same-worlds, same-files, front-of}
use Rattle.clock_run.proofs.laws.no_look_ahead.Goals as goal

pub returns-clause-worlds : goal.returns-clause-worlds
returns-clause-worlds c = same-worlds

pub returns-clause-files : goal.returns-clause-files
returns-clause-files c = same-files

pub returns-clause-front : goal.returns-clause-front
returns-clause-front c = front-of
