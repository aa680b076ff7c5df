use Rattle.clock_feeds.proofs.FeedLemmas.{feed_rises, key_rows_rise}
use Rattle.clock_feeds.proofs.laws.lists_rise.Goals as goal

pub returns-clause-feed : goal.returns-clause-feed
returns-clause-feed c = feed_rises

pub returns-clause-rows : goal.returns-clause-rows
returns-clause-rows c = key_rows_rise
