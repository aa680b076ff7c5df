-- The algorithm file of a backtest: its plan, or the words with which a report refuses it.
use Rattle.std.specs.Prelude.{ℕ, nat_le, nat_lt, ◌&&◌, if◌then◌else◌, List, [], ◌∷◌, ◌++◌, map, take, length, codes, decimal, Option, Some, None, Result, Ok, Err}
use Rattle.rule_lang.specs.declared.fault.RuleError.{RuleError}
use Rattle.rule_lang.specs.declared.fault.RuleError.TheVariants.{Token, Number, Syntax, Depth, WrongType}
use Rattle.rule_strategy.specs.declared.fault.Part.{Part}
use Rattle.rule_strategy.specs.declared.fault.Part.TheVariants as part
use Rattle.rule_strategy.specs.declared.fault.PlanFault.{PlanFault}
use Rattle.rule_strategy.specs.declared.fault.PlanFault.TheVariants.{Toml, Missing, Unknown, Value, Limit, Rule, NoMemory}
use Rattle.rule_strategy.specs.declared.plan.Plan.{Plan}
use Rattle.rule_strategy.specs.Answers.{Answer}
use Rattle.rule_strategy.specs.PlanFile.{plan}

-- the most bytes of it
abbrev pub most_algorithm : ℕ
most_algorithm = 1048576

-- of a key the first 64 bytes are shown, with `?` in place of each that is no printed one of ASCII
abbrev pub shown_byte : ℕ → ℕ
shown_byte byte = if nat_le 32 byte && nat_le byte 126 then byte else 63

abbrev pub shown_key : List ℕ → List ℕ
shown_key key = map shown_byte (take 64 key)

abbrev pub part_word : Part → List ℕ
part_word part.When = codes "when"
part_word part.Quantity = codes "quantity"
part_word part.Price = codes "price"
part_word part.Limit = codes "limit"

abbrev pub error_word : RuleError → List ℕ
error_word Token = codes "token"
error_word Number = codes "number"
error_word Syntax = codes "syntax"
error_word Depth = codes "depth"
error_word WrongType = codes "type"

-- the number of a rule, its part, the error, and the place of the byte at which it stands
unfoldable pub rule_words : ℕ → Part → RuleError → ℕ → List ℕ
rule_words number part error place =
    codes "rule " ++ decimal number ++ 32 ∷ part_word part ++ 32 ∷ error_word error ++ 32 ∷ decimal place

-- the words for a fault; a definition never wants memory
abbrev pub fault_words : PlanFault → List ℕ
fault_words Toml = codes "toml"
fault_words (Missing key) = codes "missing " ++ shown_key key
fault_words (Unknown key) = codes "unknown " ++ shown_key key
fault_words (Value key) = codes "value " ++ shown_key key
fault_words (Limit key) = codes "limit " ++ shown_key key
fault_words (Rule number part error place) = rule_words number part error place
fault_words NoMemory = []

abbrev pub or_words : Answer Plan → Result Plan (List ℕ)
or_words (Ok plan) = Ok plan
or_words (Err fault) = Err (fault_words fault)

unfoldable pub algorithm_in : Option (List ℕ) → Result Plan (List ℕ)
algorithm_in None = Err (codes "missing file")
algorithm_in (Some bytes) = if nat_lt most_algorithm (length bytes) then Err (codes "large") else or_words (plan bytes)

-- the line that refuses the file
unfoldable pub algorithm_line : List ℕ → List ℕ
algorithm_line words = codes "algorithm " ++ words ++ 10 ∷ []
