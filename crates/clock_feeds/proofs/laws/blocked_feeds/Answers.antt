use Rattle.clock_feeds.proofs.SliceLemmas.{not_blocked, blocked_at_end}
use Rattle.clock_feeds.proofs.laws.blocked_feeds.Goals as goal

pub returns-clause-before : goal.returns-clause-before
returns-clause-before c = not_blocked

pub returns-clause-at_end : goal.returns-clause-at_end
returns-clause-at_end c = blocked_at_end
