use Rattle.std.proofs.Common.{◌∙◌}
use Rattle.universe_state.proofs.Lookups.{active_is}
use Rattle.universe_state.proofs.found.is_active.Goals as goal

pub returns : goal.returns
returns c = c.contains_key.ensures ∙ active_is c.args.symbol.now c.args.members.now.entries
