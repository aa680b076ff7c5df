use Rattle.std.proofs.Common.{◌++◌, sym, subst, ◌∙◌}
use Rattle.backtest_core.specs.Standing.{feed_of}
use Rattle.backtest_core.specs.Inside.{bars_in}
use Rattle.backtest_core.specs.Watching.{WatchesAt}
use Rattle.backtest_core.proofs.FollowLemmas.{without-bar, with-one}
use Rattle.backtest_core.proofs.watched.Watched.arrive.Goals as goal

pub returns-in-None-clause-arrives : goal.returns-in-None-clause-arrives
returns-in-None-clause-arrives c = λ t f slice watches quiet once first.
    subst (WatchesAt t c.rest.new.self) (sym (without-bar slice f (sym first ∙ c.in-None.is)))
    (c.rest.ensures.rests t f watches quiet)

pub returns-in-Some-clause-arrives : goal.returns-in-Some-clause-arrives
returns-in-Some-clause-arrives c = λ t f slice watches quiet once first.
    let one = with-one t f (bars_in slice (feed_of f)) c.in-Some.bar (sym first ∙ c.in-Some.is) once in
    subst (λ bars. WatchesAt t c.take.new.self (record f { bars = f.bars ++ bars })) (sym one.is)
    (c.take.ensures.takes t f watches quiet one.fits)
