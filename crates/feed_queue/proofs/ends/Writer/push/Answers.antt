-- A push keeps the rule, and a writer learns what the full queue holds.
use Rattle.std.proofs.Common.{ap}
use Rattle.feed_queue.specs.Rule.{may_send}
use Rattle.feed_queue.proofs.Moves.{sends, writers}
use Rattle.feed_queue.proofs.ends.Writer.push.Goals as goal

pub push_as-requires-clause-rule : goal.push_as-requires-clause-rule
push_as-requires-clause-rule g c = (sends _ _ _ _ (ap may_send c.args.self.now.role), writers _ _ (ap may_send c.args.self.now.role))
