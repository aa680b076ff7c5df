use Rattle.clock_feeds.proofs.FeedLemmas.{feed_within, key_rows_within}
use Rattle.clock_feeds.proofs.laws.lists_lie_within.Goals as goal

pub returns-clause-feed : goal.returns-clause-feed
returns-clause-feed c = feed_within

pub returns-clause-rows : goal.returns-clause-rows
returns-clause-rows c = key_rows_within
