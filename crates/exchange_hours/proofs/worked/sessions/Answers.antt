use Rattle.std.proofs.Common.{refl}
use Rattle.exchange_hours.specs.Sessions.{session}
use Rattle.exchange_hours.proofs.worked.sessions.Goals as goal

pub returns-clause-usual : goal.returns-clause-usual
unfolding session
returns-clause-usual c = refl

pub returns-clause-holiday : goal.returns-clause-holiday
unfolding session
returns-clause-holiday c = refl

pub returns-clause-early_close : goal.returns-clause-early_close
unfolding session
returns-clause-early_close c = refl

pub returns-clause-weekend : goal.returns-clause-weekend
unfolding session
returns-clause-weekend c = refl

pub returns-clause-openings : goal.returns-clause-openings
unfolding session
returns-clause-openings c = refl
