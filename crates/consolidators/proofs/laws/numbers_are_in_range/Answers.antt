use Rattle.consolidators.proofs.InRange.{numbers_told, numbers_tested}
use Rattle.consolidators.proofs.laws.numbers_are_in_range.Goals as goal

pub returns : goal.returns
returns c = λ bar. (numbers_told bar, numbers_tested bar)
