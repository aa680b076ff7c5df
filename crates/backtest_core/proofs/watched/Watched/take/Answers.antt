use Rattle.std.proofs.Common.{◌++◌, ◌∷◌, [], refl, ap, sym, ◌∙◌, Some, None}
use Rattle.std.specs.List.{last_or}
use Rattle.clock_run.specs.Histories.{given_with}
use Rattle.backtest_core.proofs.FollowLemmas.{take-at}
use Rattle.backtest_core.proofs.watched.Watched.take.Goals as goal

pub returns-clause-takes : goal.returns-clause-takes
returns-clause-takes c = λ t f watches quiet fits.
    take-at t c.args.self.now _ f c.args.bar.now watches quiet fits refl refl refl (c.take-self.ensures.follows f.bars watches.follows) refl
    (c.take-self.ensures.fresh f.bars watches.follows
    ∙ ap (λ p. last_or None (given_with p (f.bars ++ c.args.bar.now ∷ []) (Some c.args.bar.now))) (sym c.args.self.now.period_is))
