use Rattle.clock_feeds.proofs.StayLemmas.{bars_stay, rows_stay, feed_stays}
use Rattle.clock_feeds.proofs.laws.blocked_feeds_stay.Goals as goal

pub returns-clause-bars : goal.returns-clause-bars
returns-clause-bars c = bars_stay

pub returns-clause-rows : goal.returns-clause-rows
returns-clause-rows c = rows_stay

pub returns-clause-feed : goal.returns-clause-feed
returns-clause-feed c = λ files hours window key. feed_stays files hours window key key.kind
