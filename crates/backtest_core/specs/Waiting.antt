-- The securities that wait for the numbers of their feeds.
use Rattle.std.specs.Prelude.{false, List, map}
use Rattle.lean_items.specs.declared.feed_key.FeedKey.{FeedKey}
use Rattle.lean_items.specs.declared.feed_key.FeedKind.TheVariants.{Equity}
use Rattle.clock_run.specs.States.{Subscription}
use Rattle.backtest_core.specs.declared.waiting.Waiting.{Waiting}

abbrev pub key_in : Waiting → FeedKey
key_in w = record { kind = Equity w.symbol w.resolution; start = w.start; fill = w.fill }

-- a security that waits, under no number yet
abbrev pub subscription_in : Waiting → Subscription
subscription_in w = record {
  active = record { symbol = w.symbol; feed = record { 0 = 0 }; listed = w.listed; marked = false };
  key = key_in w;
  period = w.period;
}

abbrev pub subscriptions_in : List Waiting → List Subscription
subscriptions_in ws = map subscription_in ws
