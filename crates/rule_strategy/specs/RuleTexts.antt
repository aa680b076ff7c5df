-- The rules of a file whose expressions are still texts. A key that a rule does not take is unknown at its place in the
-- order of the keys.
use Rattle.std.specs.Prelude.{ℕ, Bool, true, false, List, [], ◌∷◌, ◌++◌, codes, None, Ok}
use Rattle.toml.specs.Data.{Data, Items, no_items, item, Members}
use Rattle.lean_orders.specs.declared.order.Kind.{Kind}
use Rattle.lean_orders.specs.declared.order.Kind.TheVariants as kinds
use Rattle.rule_strategy.specs.declared.rule_texts.RuleTexts.{RuleTexts}
use Rattle.rule_strategy.specs.declared.rule_texts.ActionTexts.{ActionTexts}
use Rattle.rule_strategy.specs.declared.rule_texts.ActionTexts.TheVariants as texts
use Rattle.rule_strategy.specs.declared.rule_texts.Verb.{Verb}
use Rattle.rule_strategy.specs.declared.rule_texts.Verb.TheVariants as verbs
use Rattle.rule_strategy.specs.Answers.{Answer, ◌>>=◌, pure}
use Rattle.rule_strategy.specs.Values.{symbol, kind, verb}
use Rattle.rule_strategy.specs.Tables.{only, row, optional, array_row, table_of, text_row, text_if}

-- orders that rest at a price, which an update may change; of a stop-limit order it is the stop
abbrev pub rests_at_price : Kind → Bool
rests_at_price kinds.Limit = true
rests_at_price kinds.Stop = true
rests_at_price kinds.StopLimit = true
rests_at_price _ = false

abbrev pub has_limit : Kind → Bool
has_limit kinds.StopLimit = true
has_limit _ = false

unfoldable pub order : Members → Answer ActionTexts
order table = do
  kind ← row (codes "kind") kind None table
  quantity ← text_row (codes "quantity") table
  price ← text_if (rests_at_price kind) (codes "price") table
  limit ← text_if (has_limit kind) (codes "limit") table
  pure (texts.Order kind quantity price limit)

unfoldable pub update : Members → Answer ActionTexts
update table = do
  kind ← text_if false (codes "kind") table
  quantity ← text_if false (codes "quantity") table
  price ← text_row (codes "price") table
  limit ← text_if false (codes "limit") table
  pure (texts.Update price)

unfoldable pub cancel : Members → Answer ActionTexts
cancel table = do
  kind ← text_if false (codes "kind") table
  quantity ← text_if false (codes "quantity") table
  price ← text_if false (codes "price") table
  limit ← text_if false (codes "limit") table
  pure texts.Cancel

abbrev pub action : Verb → Members → Answer ActionTexts
action verbs.Submit table = order table
action verbs.Cancel table = cancel table
action verbs.Update table = update table

abbrev pub rule_keys : List (List ℕ)
rule_keys =
    codes "when" ∷ codes "do" ∷ codes "symbol" ∷ codes "kind" ∷ codes "quantity" ∷ codes "price" ∷ codes "limit" ∷ []

unfoldable pub rule_texts : Members → Answer RuleTexts
rule_texts table = do
  known ← only rule_keys table
  when ← text_row (codes "when") table
  verb ← row (codes "do") verb None table
  symbol ← optional (codes "symbol") symbol table
  action ← action verb table
  pure (record { symbol = symbol; when = when; action = action })

unfoldable pub next_texts : Data → Answer RuleTexts
next_texts d = do
  table ← table_of (codes "rules") d
  rule_texts table

-- the others behind the earlier ones
unfoldable pub texts_from : List RuleTexts → Items → Answer (List RuleTexts)
texts_from earlier no_items = Ok earlier
texts_from earlier (item d others) = do
  next ← next_texts d
  texts_from (earlier ++ next ∷ []) others

unfoldable pub all_texts : Members → Answer (List RuleTexts)
all_texts table = do
  items ← array_row (codes "rules") 64 table
  texts_from [] items
