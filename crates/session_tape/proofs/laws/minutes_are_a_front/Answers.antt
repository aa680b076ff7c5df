use Rattle.session_tape.proofs.EndLemmas.{minutes_front}
use Rattle.session_tape.proofs.laws.minutes_are_a_front.Goals as goal

pub returns : goal.returns
returns c = minutes_front
