use Rattle.std.proofs.Common.{Ok, sym, ap}
use Rattle.rule_strategy.specs.Universe.{selection}
use Rattle.rule_strategy.proofs.universe.read_selection.Goals as goal

pub returns : goal.returns
unfolding selection
returns c =
    rw (c.in_ok-top.ensures.value, c.in_ok-price.ensures.value, c.in_ok-volume.ensures.value, c.in_ok-dollars.ensures.value)
    (ap Ok (sym c.selection_of.ensures))
