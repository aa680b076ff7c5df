use Rattle.exchange_hours.proofs.GridLemmas.{has_one_bar}
use Rattle.exchange_hours.proofs.laws.one_bar.Goals as goal

pub returns : goal.returns
returns c = has_one_bar
