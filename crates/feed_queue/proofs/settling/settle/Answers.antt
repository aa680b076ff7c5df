-- The rule holds when the two ends are joined, and tells both lists.
use Rattle.std.proofs.Common.{rules}
use Rattle.feed_queue.proofs.Moves.{merges, totals}
use Rattle.feed_queue.proofs.settling.settle.Goals as goal

pub absorb-requires-clause-rule : goal.absorb-requires-clause-rule
absorb-requires-clause-rule g c = merges _ _ _ _ c.args.writer.role c.args.reader.role

pub learn_as-requires-clause-rule : goal.learn_as-requires-clause-rule
learn_as-requires-clause-rule g c = totals _ _ (search rules)
