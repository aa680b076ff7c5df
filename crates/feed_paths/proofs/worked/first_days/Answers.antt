use Rattle.std.proofs.Common.{refl}
use Rattle.exchange_hours.specs.Sessions.{session}
use Rattle.feed_paths.proofs.worked.first_days.Goals as goal

pub returns-clause-minute : goal.returns-clause-minute
unfolding session
returns-clause-minute c = refl
