use Rattle.std.proofs.Common.{refl}
use Rattle.backtest_core.proofs.FollowLemmas.{rests-at}
use Rattle.backtest_core.proofs.watched.Watched.rest.Goals as goal

pub returns-clause-rests : goal.returns-clause-rests
returns-clause-rests c = λ t f watches quiet.
    rests-at t _ f (record { active = watches.active; period = watches.period; last = watches.last; follows = watches.follows }) quiet refl refl
