use Rattle.std.proofs.Common.{◌∙◌}
use Rattle.frontier_sync.specs.Heads.{arrival}
use Rattle.backtest_engine.proofs.FeedLemmas.{put-last}
use Rattle.backtest_engine.proofs.feeds.keep.Goals as goal

pub returns-in_ok-extend_from_slice-in-Ok-clause-heads : goal.returns-in_ok-extend_from_slice-in-Ok-clause-heads
returns-in_ok-extend_from_slice-in-Ok-clause-heads c = c.in-Ok.ensures.ok ∙ put-last (arrival c.args.feed c.args.item) c.args.heads.now c.requires
