-- The plan that was read, or the words for its fault.
use Rattle.lean_top.proofs.AlgorithmLemmas.{plan_is, plan_refused}
use Rattle.lean_top.proofs.algorithm.plan_of.Goals as goal

pub returns-in-Ok-clause-told : goal.returns-in-Ok-clause-told
returns-in-Ok-clause-told c = λ le. plan_is c.args.bytes.now c.in-Ok.plan le c.in-Ok.ensures.value

pub returns-in-Ok-fault_words-clause-told : goal.returns-in-Ok-fault_words-clause-told
returns-in-Ok-fault_words-clause-told c =
    λ le. plan_refused c.args.bytes.now c.in-Err.fault c.in-Ok-fault_words.words.items le c.in-Err.ensures.value c.in-Ok-fault_words.ensures
