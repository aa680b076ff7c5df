-- The reading of a text: its tree, or its first fault. Faults are sought in three rounds: tokens over the whole text, then
-- the grammar in reading order, then kinds. The first fault of the first round that has one is the answer.
use Rattle.std.specs.Prelude.{◌≡◌, ℕ, List, Result, Ok, Err}
use Rattle.rule_lang.specs.declared.fault.Want.{Want}
use Rattle.rule_lang.specs.declared.fault.Want.TheVariants.{Truth, Number}
use Rattle.rule_lang.specs.declared.fault.RuleError.TheVariants as error
use Rattle.rule_lang.specs.declared.fault.RuleFault.{RuleFault}
use Rattle.rule_lang.specs.declared.fault.RuleFault.TheVariants.{At, NoMemory}
use Rattle.rule_lang.specs.Tokens.{Fault, tokens}
use Rattle.rule_lang.specs.Tree.{Tree, condition, amount}
use Rattle.rule_lang.specs.Parts.{Part, logical, numeric}
use Rattle.rule_lang.specs.Grammar.{whole}

abbrev pub then : {A B : Type 0} → Result A Fault → (A → Result B Fault) → Result B Fault
then (Ok a) f = f a
then (Err fault) f = Err fault

-- a type error first, and then the whole of the wrong kind, which stands at 0
abbrev pub typed : Want → Part → Result Tree Fault
typed want (logical (Err place)) = Err (error.WrongType, place)
typed want (numeric (Err place)) = Err (error.WrongType, place)
typed Truth (logical (Ok c)) = Ok (condition c)
typed Number (numeric (Ok a)) = Ok (amount a)
typed want part = Err (error.WrongType, 0)

unfoldable pub reading : List ℕ → Want → Result Tree Fault
reading text want = then (tokens text) (λ ts. then (whole ts) (λ read. typed want read.0))

-- an answer is what is wanted; want of memory alone may come in its place
abbrev pub Fails : {A : Type 0} → Result A Fault → RuleFault → Type 0
Fails want (At error at) = want ≡ Err (error, at)
Fails want NoMemory = Unit {0}

abbrev pub Gives : {A B : Type 0} → (A → B) → Result A RuleFault → Result B Fault → Type 0
Gives view (Ok x) want = want ≡ Ok (view x)
Gives view (Err fault) want = Fails want fault
