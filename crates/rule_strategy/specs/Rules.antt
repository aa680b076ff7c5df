-- The rules of a file: their expressions are read once the rest of the file has no fault.
use Rattle.std.specs.Prelude.{ℕ, ◌+◌, List, [], ◌∷◌, ◌++◌, Option, Some, None, Result, Ok, Err}
use Rattle.toml.specs.Data.{Members}
use Rattle.rule_lang.specs.declared.fault.Want.{Want}
use Rattle.rule_lang.specs.declared.fault.Want.TheVariants.{Truth, Number}
use Rattle.rule_lang.specs.Tokens.{Fault}
use Rattle.rule_lang.specs.Tree.{Tree}
use Rattle.rule_lang.specs.Reading.{reading}
use Rattle.rule_strategy.specs.declared.fault.Part.{Part}
use Rattle.rule_strategy.specs.declared.fault.Part.TheVariants as part
use Rattle.rule_strategy.specs.declared.fault.PlanFault.TheVariants as fault
use Rattle.rule_strategy.specs.declared.rule.Rule.{Rule}
use Rattle.rule_strategy.specs.declared.rule.Action.{Action}
use Rattle.rule_strategy.specs.declared.rule.Action.TheVariants as act
use Rattle.rule_strategy.specs.declared.rule_texts.RuleTexts.{RuleTexts}
use Rattle.rule_strategy.specs.declared.rule_texts.ActionTexts.{ActionTexts}
use Rattle.rule_strategy.specs.declared.rule_texts.ActionTexts.TheVariants as texts
use Rattle.rule_strategy.specs.Answers.{Answer, ◌>>=◌, pure}
use Rattle.rule_strategy.specs.RuleTexts.{all_texts}

-- a fault of an expression names the number of the rule, the part of it and the place in that text
abbrev pub at_rule : {A : Type 0} → ℕ → Part → Result A Fault → Answer A
at_rule number part (Ok tree) = Ok tree
at_rule number part (Err (error, at)) = Err (fault.Rule number part error at)

unfoldable pub expression : ℕ → Part → Want → List ℕ → Answer Tree
expression number part want text = at_rule number part (reading text want)

unfoldable pub expression_if : ℕ → Part → Option (List ℕ) → Answer (Option Tree)
expression_if number part None = Ok None
expression_if number part (Some text) = do
  tree ← expression number part Number text
  pure (Some tree)

unfoldable pub action_of : ℕ → ActionTexts → Answer Action
action_of number (texts.Order kind quantity price limit) = do
  quantity ← expression number part.Quantity Number quantity
  price ← expression_if number part.Price price
  limit ← expression_if number part.Limit limit
  pure (act.Order kind quantity price limit)
action_of number (texts.Update price) = do
  price ← expression number part.Price Number price
  pure (act.Update price)
action_of number texts.Cancel = Ok act.Cancel

unfoldable pub rule_of : ℕ → RuleTexts → Answer Rule
rule_of number texts = do
  when ← expression number part.When Truth texts.when
  action ← action_of number texts.action
  pure (record { symbol = texts.symbol; when = when; action = action })

-- the others behind the earlier ones; rules are numbered from 1
unfoldable pub rules_from : ℕ → List Rule → List RuleTexts → Answer (List Rule)
rules_from number earlier [] = Ok earlier
rules_from number earlier (texts ∷ others) = do
  next ← rule_of number texts
  rules_from (number + 1) (earlier ++ next ∷ []) others

unfoldable pub rules : Members → Answer (List Rule)
rules table = do
  texts ← all_texts table
  rules_from 1 [] texts
