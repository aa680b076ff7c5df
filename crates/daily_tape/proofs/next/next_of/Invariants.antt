use Rattle.std.specs.Prelude.{take}
use Rattle.daily_tape.proofs.NextLemmas.{Seen}
use Rattle.daily_tape.proofs.next.next_of.Given as goal

abbrev pub invariant-loop-place : goal.invariant-loop-place
invariant-loop-place g l = Seen (take l.place l.sources) l.least
