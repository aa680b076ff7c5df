use Rattle.std.proofs.Common.{rules}
use Rattle.order_desk.proofs.ServingLemmas.{ended-now}
use Rattle.order_desk.proofs.server.Server.send.Goals as goal

pub returns-then-self-ge-MOST_SENT-clause-ended : goal.returns-then-self-ge-MOST_SENT-clause-ended
returns-then-self-ge-MOST_SENT-clause-ended g c = ended-now _ _ (search rules)
