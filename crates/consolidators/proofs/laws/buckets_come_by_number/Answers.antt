use Rattle.consolidators.proofs.Rising.{buckets-rise, given-rise}
use Rattle.consolidators.proofs.laws.buckets_come_by_number.Goals as goal

pub returns : goal.returns
returns c = record { numbers = buckets-rise; given = given-rise }
