-- Readings of an algorithm file: each gives a value or the first fault.
use Rattle.std.specs.Prelude.{◌≡◌, Result, Ok, Err}
use Rattle.rule_strategy.specs.declared.fault.PlanFault.{PlanFault}
use Rattle.rule_strategy.specs.declared.fault.PlanFault.TheVariants.{NoMemory}

abbrev pub Answer : Type 0 → Type 0
Answer A = Result A PlanFault

-- one reading after another: the first fault is the answer
infixl 10 ◌>>=◌
abbrev pub ◌>>=◌ : {A B : Type 0} → Answer A → (A → Answer B) → Answer B
Ok a >>= f = f a
Err fault >>= f = Err fault

abbrev pub pure : {A : Type 0} → A → Answer A
pure a = Ok a

-- an answer is what is wanted; want of memory alone may come in its place
abbrev pub Fails : {A : Type 0} → Answer A → PlanFault → Type 0
Fails want NoMemory = Unit {0}
Fails want fault = want ≡ Err fault

abbrev pub Gives : {A B : Type 0} → (A → B) → Answer B → Answer A → Type 0
Gives view want (Ok x) = want ≡ Ok (view x)
Gives view want (Err fault) = Fails want fault
