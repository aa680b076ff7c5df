-- Algorithm files and tables to compute the definitions on.
use Rattle.std.specs.Prelude.{ℕ, zero, suc, true, List, ◌++◌, codes}
use Rattle.toml.specs.Data.{Items, no_items, item, boolean, Members, no_members, member, array}
use Rattle.rule_strategy.specs.declared.plan.Plan.{Plan}
use Rattle.rule_strategy.specs.Answers.{Answer}
use Rattle.rule_strategy.specs.PlanFile.{plan}

-- two days in October 2013 and a thousand dollars
abbrev pub usual_lines : List ℕ
usual_lines = codes "start = '20131007'\nend = '20131008'\ncash = '1000'\n"

-- what these lines and some more are
abbrev pub usual_plan : List ℕ → Answer Plan
usual_plan more = plan (usual_lines ++ more)

-- a table whose one key holds an array of so many values
abbrev pub many : ℕ → Items
many zero = no_items
many (suc n) = item (boolean true) (many n)

abbrev pub array_of : List ℕ → ℕ → Members
array_of key count = member key (array (many count)) no_members
