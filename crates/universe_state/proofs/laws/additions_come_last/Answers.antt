use Rattle.universe_state.proofs.Joining.{added-once, added-new, added-all, joined}
use Rattle.universe_state.proofs.laws.additions_come_last.Goals as goal

pub returns : goal.returns
returns c = record { once = added-once; new = added-new; all = added-all; joined = joined }
