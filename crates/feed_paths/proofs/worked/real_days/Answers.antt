use Rattle.std.proofs.Common.{refl}
use Rattle.exchange_hours.specs.Sessions.{session}
use Rattle.feed_paths.proofs.worked.real_days.Goals as goal

pub returns-clause-minute : goal.returns-clause-minute
unfolding session
returns-clause-minute c = refl

pub returns-clause-past : goal.returns-clause-past
unfolding session
returns-clause-past c = refl
