use Rattle.std.proofs.Common.{◌≡◌}
use Rattle.indexmap.specs.IndexMap.{index_map_len}
use Rattle.universe_state.proofs.Marking.{MarkedTo}
use Rattle.universe_state.proofs.marks.mark_all.Given as goal

abbrev pub invariant-loop-i : goal.invariant-loop-i
invariant-loop-i l = MarkedTo l.symbols l.i l.fn.members.entries l.members.entries × (index_map_len l.members ≡ index_map_len l.fn.members)
