-- A pop keeps the rule, and tells both lists.
use Rattle.std.proofs.Common.{ap, rules}
use Rattle.feed_queue.specs.Rule.{may_take}
use Rattle.feed_queue.proofs.Moves.{takes, totals}
use Rattle.feed_queue.proofs.settled.Rest.next.Goals as goal

pub pop_as-requires-clause-rule : goal.pop_as-requires-clause-rule
pop_as-requires-clause-rule g c = (takes _ _ (ap may_take c.args.self.now.role), totals _ _ c.args.self.now.role)

pub learn_as-requires-clause-rule : goal.learn_as-requires-clause-rule
learn_as-requires-clause-rule g c = totals _ _ (search rules)
