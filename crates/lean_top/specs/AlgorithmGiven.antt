-- What a reading of the algorithm file gave.
use Rattle.std.specs.Prelude.{◌≡◌, ℕ, List, Option, Ok, Err}
use Rattle.lean_fixed.specs.Counts.{Rose}
use Rattle.rule_strategy.specs.declared.fault.PlanFault.{PlanFault}
use Rattle.rule_strategy.specs.declared.fault.PlanFault.TheVariants.{NoMemory}
use Rattle.rule_strategy.specs.Validity.{IsPlan}
use Rattle.lean_top.specs.declared.algorithm.AlgorithmRead.{AlgorithmRead}
use Rattle.lean_top.specs.declared.algorithm.AlgorithmRead.TheVariants.{Read, Refused, Faulted}
use Rattle.lean_top.specs.AlgorithmRead.{fault_words, algorithm_in}

-- the plan in the bytes of the file, or the words that refuse it, where `file` is its bytes or nothing
abbrev pub GivesPlan : Option (List ℕ) → AlgorithmRead → Type 0
GivesPlan file (Read plan) = algorithm_in file ≡ Ok plan
GivesPlan file (Refused words) = algorithm_in file ≡ Err words.items
GivesPlan file Faulted = Unit {0}

-- a plan that is given is a valid one
abbrev pub IsValid : AlgorithmRead → Type 0
IsValid (Read plan) = IsPlan plan
IsValid (Refused words) = Unit {0}
IsValid Faulted = Unit {0}

-- a reading fails only where the count of faults rose
abbrev pub HasPlanCause : ℕ → ℕ → AlgorithmRead → Type 0
HasPlanCause before now Faulted = Rose before now
HasPlanCause before now (Read plan) = Unit {0}
HasPlanCause before now (Refused words) = Unit {0}

-- the words for a fault of the file, and not for want of memory
abbrev pub AreWordsOf : PlanFault → List ℕ → Type 0
AreWordsOf NoMemory words = ⊥
AreWordsOf fault words = words ≡ fault_words fault
