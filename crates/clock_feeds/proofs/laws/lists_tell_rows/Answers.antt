use Rattle.clock_feeds.proofs.FeedLemmas.{coarse_told}
use Rattle.clock_feeds.proofs.laws.lists_tell_rows.Goals as goal

pub returns : goal.returns
returns c = λ kept t. coarse_told t kept
