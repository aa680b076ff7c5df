-- A look at the length keeps the rule.
use Rattle.std.proofs.Common.{ap}
use Rattle.feed_queue.specs.Rule.{may_send}
use Rattle.feed_queue.proofs.Moves.{writers}
use Rattle.feed_queue.proofs.ends.Writer.room.Goals as goal

pub len_as-held-requires-clause-rule : goal.len_as-held-requires-clause-rule
len_as-held-requires-clause-rule g c = writers _ _ (ap may_send c.args.self.now.role)
