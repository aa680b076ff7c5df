use Rattle.std.proofs.Common.{sym, subst, [], ◌∷◌, ◌++◌}
use Rattle.bar_windows.specs.Recent.{StandsFor as WindowsStandFor}
use Rattle.clock_run.specs.Histories.{closes}
use Rattle.backtest_core.proofs.FollowLemmas.{closes-heard}
use Rattle.backtest_core.proofs.following.Following.take.Goals as goal

pub returns-clause-follows : goal.returns-clause-follows
returns-clause-follows c = λ bars f. record {
  heard = c.given_by-given.ensures.heard bars f.heard;
  closes = subst (λ period. WindowsStandFor c.hear.new.windows (closes (record { symbol = []; period = period; bars = bars ++ c.args.bar.now ∷ [] })))
      (sym c.given_by-given.ensures.period)
      (closes-heard _ _ _ _ bars c.args.bar.now _ (c.given_by-given.ensures.gives bars f.heard) c.given_by-given.ensures.windows c.hear.ensures.stands f.closes);
}
