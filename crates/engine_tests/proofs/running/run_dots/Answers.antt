use Rattle.std.proofs.Common.{List}
use Rattle.lean_items.specs.declared.feed_key.FeedKey.{FeedKey}
use Rattle.backtest_engine.specs.Meaning.{State}
use Rattle.engine_tests.specs.Dots.{dots}
use Rattle.engine_tests.proofs.running.run_dots.Goals as goal

pub returns-clause-told : goal.returns-clause-told
returns-clause-told g c before lists b stand is are kept op =
    let s : State (List FeedKey) = record { own = c.args.opening.now; book = b } in
    c.run_strategy.ensures.told before lists dots s b stand is are (c.new-desk.ensures.stands b kept) (c.new-strategy.ensures.stands s c.args.opening.now) op
    (λ count small none. tt)
