use Rattle.universe_rules.proofs.Differing.{selected-once, selected-few}
use Rattle.universe_rules.proofs.laws.selected_symbols_differ.Goals as goal

pub returns : goal.returns
returns c = record { once = selected-once; few = selected-few }
