use Rattle.fill_models.proofs.RangeLemmas.{fill_range, slipped_range, fee_range}
use Rattle.fill_models.proofs.laws.fills_stay_in_range.Goals as goal

pub returns-clause-price : goal.returns-clause-price
returns-clause-price c = fill_range

pub returns-clause-slipped : goal.returns-clause-slipped
returns-clause-slipped c = slipped_range

pub returns-clause-fee : goal.returns-clause-fee
returns-clause-fee c = fee_range
