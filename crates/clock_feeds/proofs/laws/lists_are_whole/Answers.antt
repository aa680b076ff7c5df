use Rattle.clock_feeds.proofs.FeedLemmas.{feed_whole, key_rows_whole}
use Rattle.clock_feeds.proofs.laws.lists_are_whole.Goals as goal

pub returns-clause-feed : goal.returns-clause-feed
returns-clause-feed c = feed_whole

pub returns-clause-rows : goal.returns-clause-rows
returns-clause-rows c = key_rows_whole
