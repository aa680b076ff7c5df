use Rattle.universe_state.specs.Entries.{securities}
use Rattle.universe_state.proofs.OneMore.{additions_more}
use Rattle.universe_state.proofs.additions.additions.Goals as goal

pub loop-symbol-preserved : goal.loop-symbol-preserved
loop-symbol-preserved c =
    additions_more c.args.symbols.now c.loop-symbol.symbol-index c.symbol-item.result (securities c.args.members.now) c.is_new-adds.result
    c.loop-symbol.added.items c.add.new.added.items c.loop-symbol-test.true c.symbol-item.is c.loop-symbol.invariant c.is_new-adds.ensures c.in_ok-add.ensures
