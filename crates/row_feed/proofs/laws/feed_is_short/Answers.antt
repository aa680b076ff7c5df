use Rattle.row_feed.specs.Few.{few_rows}
use Rattle.row_feed.proofs.laws.feed_is_short.Goals as goal

pub returns : goal.returns
returns g c = few_rows c.args.feed.now
