use Rattle.clock_feeds.proofs.StandLemmas.{past, next_only, last_only, not_blocked, not_known, blocked_last}
use Rattle.clock_feeds.proofs.laws.standing_lists.Goals as goal

pub returns-clause-past : goal.returns-clause-past
returns-clause-past c = past

pub returns-clause-bar : goal.returns-clause-bar
returns-clause-bar c = next_only

pub returns-clause-last : goal.returns-clause-last
returns-clause-last c = last_only

pub returns-clause-open : goal.returns-clause-open
returns-clause-open c = not_blocked

pub returns-clause-closed : goal.returns-clause-closed
returns-clause-closed c = blocked_last

pub returns-clause-waits : goal.returns-clause-waits
returns-clause-waits c = not_known
