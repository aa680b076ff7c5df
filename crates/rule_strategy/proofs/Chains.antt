-- Readings in a row: a fault of the first is a fault of all.
use Rattle.rule_strategy.specs.declared.fault.PlanFault.{PlanFault}
use Rattle.rule_strategy.specs.declared.fault.PlanFault.TheVariants.{Toml, Missing, Unknown, Value, Limit, Rule, NoMemory}
use Rattle.rule_strategy.specs.Answers.{Answer, ◌>>=◌, Fails}

pub fails_first : {A B : Type 0} (want : Answer A) (next : A → Answer B) (fault : PlanFault) → Fails want fault → Fails (want >>= next) fault
fails_first want next Toml h = rw h
fails_first want next (Missing key) h = rw h
fails_first want next (Unknown key) h = rw h
fails_first want next (Value key) h = rw h
fails_first want next (Limit key) h = rw h
fails_first want next (Rule number part error at) h = rw h
fails_first want next NoMemory h = tt
