-- The hours that were read, or the word for their fault.
use Rattle.lean_top.proofs.HoursLemmas.{hours_are, hours_refused}
use Rattle.lean_top.proofs.hours.hours_of.Goals as goal

pub returns-in-Ok-clause-told : goal.returns-in-Ok-clause-told
returns-in-Ok-clause-told c = λ le. hours_are c.args.bytes.now c.in-Ok.hours le c.in-Ok.ensures

pub returns-in-Ok-word_of-clause-told : goal.returns-in-Ok-word_of-clause-told
returns-in-Ok-word_of-clause-told c = λ le. hours_refused c.args.bytes.now c.in-Err.fault c.in-Ok-word_of.word.now le c.in-Err.ensures c.in-Ok-word_of.ensures
