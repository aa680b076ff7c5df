use Rattle.consolidators.proofs.Between.{given_between}
use Rattle.consolidators.proofs.laws.nothing_is_given_between.Goals as goal

pub returns : goal.returns
returns c = given_between
