use Rattle.exchange_hours.proofs.GridLemmas.{daily_in_session}
use Rattle.exchange_hours.proofs.laws.daily_bars.Goals as goal

pub returns : goal.returns
returns c = daily_in_session
