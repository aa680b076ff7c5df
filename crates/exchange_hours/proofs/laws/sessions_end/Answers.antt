use Rattle.exchange_hours.proofs.GridLemmas.{no_late_session}
use Rattle.exchange_hours.proofs.laws.sessions_end.Goals as goal

pub returns : goal.returns
returns c = no_late_session
