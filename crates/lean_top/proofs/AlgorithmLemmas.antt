-- What the bytes of an algorithm file give.
use Rattle.std.proofs.Common.{◌≡◌, ℕ, ◌<◌, ◌≤◌, true, false, List, Option, Some, None, refl, arith}
use Rattle.std.specs.Prelude.{nat_lt, codes, length, Ok, Err}
use Rattle.std.proofs.lemmas.Bool.Decides.{nat_tests}
use Rattle.rule_strategy.specs.declared.fault.PlanFault.{PlanFault}
use Rattle.rule_strategy.specs.declared.fault.PlanFault.TheVariants.{Toml, Missing, Unknown, Value, Limit, Rule, NoMemory}
use Rattle.rule_strategy.specs.declared.plan.Plan.{Plan}
use Rattle.rule_strategy.specs.Answers.{Answer, Fails}
use Rattle.rule_strategy.specs.PlanFile.{plan}
use Rattle.lean_top.specs.AlgorithmRead.{most_algorithm, or_words, algorithm_in}
use Rattle.lean_top.specs.AlgorithmGiven.{AreWordsOf}

in_bounds : (bytes : List ℕ) → length bytes ≤ most_algorithm → nat_lt most_algorithm (length bytes) ≡ false
in_bounds bytes le = grind (arith, nat_tests)

past_bounds : (bytes : List ℕ) → most_algorithm < length bytes → nat_lt most_algorithm (length bytes) ≡ true
past_bounds bytes lt = grind (arith, nat_tests)

pub plan_is : (bytes : List ℕ) (found : Plan) → length bytes ≤ most_algorithm → plan bytes ≡ Ok found → algorithm_in (Some bytes) ≡ Ok found
unfolding algorithm_in
plan_is bytes found le is = rw (in_bounds bytes le, is) refl

refused_words : (answer : Answer Plan) (fault : PlanFault) (words : List ℕ) → Fails answer fault → AreWordsOf fault words → or_words answer ≡ Err words
refused_words answer Toml words is named = rw (is, named) refl
refused_words answer (Missing key) words is named = rw (is, named) refl
refused_words answer (Unknown key) words is named = rw (is, named) refl
refused_words answer (Value key) words is named = rw (is, named) refl
refused_words answer (Limit key) words is named = rw (is, named) refl
refused_words answer (Rule number part error place) words is named = rw (is, named) refl
refused_words answer NoMemory words is named = absurd named

pub plan_refused : (bytes : List ℕ) (fault : PlanFault) (words : List ℕ) → length bytes ≤ most_algorithm → Fails (plan bytes) fault → AreWordsOf fault words
    → algorithm_in (Some bytes) ≡ Err words
unfolding algorithm_in
plan_refused bytes fault words le is named = rw (in_bounds bytes le) (refused_words (plan bytes) fault words is named)

pub plan_missing : (file : Option (List ℕ)) (words : List ℕ) → file ≡ None → words ≡ codes "missing file" → algorithm_in file ≡ Err words
unfolding algorithm_in
plan_missing file words none is = rw (none, is) refl

pub plan_large : (file : Option (List ℕ)) (bytes words : List ℕ) → file ≡ Some bytes → most_algorithm < length bytes → words ≡ codes "large" → algorithm_in file ≡ Err words
unfolding algorithm_in
plan_large file bytes words some lt is = rw (some, past_bounds bytes lt, is) refl
