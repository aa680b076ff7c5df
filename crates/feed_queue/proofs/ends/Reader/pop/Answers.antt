-- A pop keeps the rule.
use Rattle.std.proofs.Common.{ap}
use Rattle.feed_queue.specs.Rule.{may_take}
use Rattle.feed_queue.proofs.Moves.{takes, readers}
use Rattle.feed_queue.proofs.ends.Reader.pop.Goals as goal

pub pop_as-requires-clause-rule : goal.pop_as-requires-clause-rule
pop_as-requires-clause-rule g c = (takes _ _ (ap may_take c.args.self.now.role), readers _ _ (ap may_take c.args.self.now.role))
