use Rattle.clock_feeds.proofs.FeedLemmas.{feed_plain}
use Rattle.clock_feeds.proofs.laws.plain_feeds.Goals as goal

pub returns : goal.returns
returns c = feed_plain
