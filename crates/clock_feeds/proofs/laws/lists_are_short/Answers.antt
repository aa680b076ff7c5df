use Rattle.clock_feeds.proofs.FeedLemmas.{feed_short, key_rows_short}
use Rattle.clock_feeds.proofs.laws.lists_are_short.Goals as goal

pub returns-clause-feed : goal.returns-clause-feed
returns-clause-feed c = feed_short

pub returns-clause-rows : goal.returns-clause-rows
returns-clause-rows c = key_rows_short
