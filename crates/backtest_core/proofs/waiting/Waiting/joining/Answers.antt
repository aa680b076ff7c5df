use Rattle.std.proofs.Common.{false}
use Rattle.lean_items.specs.declared.feed_key.FeedKind.TheVariants.{Equity}
use Rattle.backtest_core.proofs.waiting.Waiting.joining.Goals as goal

pub returns : goal.returns
returns c = λ t at j. record {
  active = record { symbol = c.args.symbol; feed = record { 0 = 0 }; listed = false; marked = false };
  key = record { kind = Equity c.args.symbol c.args.universe.now.resolution; start = at j; fill = c.args.universe.now.fill };
  period = c.args.universe.now.period;
}
