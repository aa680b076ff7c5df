use Rattle.std.proofs.Common.{rules}
use Rattle.lean_io.proofs.Pieces.{told_more}
use Rattle.lean_io.proofs.transfer.write_whole.Goals as goal

pub loop-done-preserved : goal.loop-done-preserved
loop-done-preserved g c = record {
  within = search rules;
  told = told_more _ _ _ _ _ _ c.loop-done.invariant.told c.in-Ok.ensures.told;
  few = search rules;
  grows = search rules;
}
