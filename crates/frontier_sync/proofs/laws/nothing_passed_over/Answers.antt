use Rattle.frontier_sync.proofs.RisingLemmas.{none-passed}
use Rattle.frontier_sync.proofs.laws.nothing_passed_over.Goals as goal

pub returns : goal.returns
returns c = none-passed
