use Rattle.std.proofs.Common.{◌≡◌, take}
use Rattle.universe_state.specs.Choice.{additions}
use Rattle.universe_state.specs.Entries.{securities}
use Rattle.universe_state.proofs.additions.additions.Given as goal

abbrev pub invariant-loop-symbol : goal.invariant-loop-symbol
invariant-loop-symbol l = l.added.items ≡ additions (take l.symbol-index l.symbols) (securities l.members)
