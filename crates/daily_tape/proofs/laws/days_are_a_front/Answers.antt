use Rattle.daily_tape.proofs.Reporting.{days_front}
use Rattle.daily_tape.proofs.laws.days_are_a_front.Goals as goal

pub returns : goal.returns
returns c = days_front
