use Rattle.std.proofs.Common.{true, false}
use Rattle.lean_items.specs.declared.feed_key.FeedKind.TheVariants.{Equity}
use Rattle.backtest_core.proofs.waiting.Waiting.listed.Goals as goal

pub returns : goal.returns
returns c = λ t start j. record {
  active = record { symbol = c.args.security.now.symbol; feed = record { 0 = 0 }; listed = true; marked = false };
  key = record { kind = Equity c.args.security.now.symbol c.args.security.now.resolution; start = start j; fill = c.args.security.now.fill };
  period = c.args.security.now.period;
}
