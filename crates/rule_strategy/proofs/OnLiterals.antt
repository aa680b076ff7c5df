-- What an answer unfolds to compute a plan on a literal.
use Rattle.std.specs.Prelude.{⊤}
use Rattle.std.specs.Str.{is_utf8, chars}
use Rattle.std.specs.Char.{encode_utf8}
use Rattle.toml.proofs.OnLiterals.{toml_on_literals}
use Rattle.jiff_core.specs.Calendar.{days_from_civil, day_count, days_of_years, days_of_months}
use Rattle.rule_lang.specs.Tokens.{front_of, word_at, sign_at, number_at, tokens_from}
use Rattle.rule_lang.specs.Grammar.{next, expect, taken, sign, not_sign, steps, chain, pair, window_length, called, enclosed, factor, term, sum, cmp, not, and, or, opened, whole}
use Rattle.rule_lang.specs.Reading.{reading}
use Rattle.rule_strategy.specs.Values as values
use Rattle.rule_strategy.specs.Tables.{only, row, optional, array_row, table_of, text_row, none_row, text_if}
use Rattle.rule_strategy.specs.Settings.{window, costs, settings}
use Rattle.rule_strategy.specs.Securities.{bars, security, next_security, securities_from, securities}
use Rattle.rule_strategy.specs.Universe.{selection, universe_table, universe}
use Rattle.rule_strategy.specs.RuleTexts.{order, update, cancel, rule_texts, next_texts, texts_from, all_texts}
use Rattle.rule_strategy.specs.Rules.{expression, expression_if, action_of, rule_of, rules_from, rules}
use Rattle.rule_strategy.specs.PlanFile.{plan_of_table, plan}

unfoldable pub language_on_literals : ⊤
unfolding front_of word_at sign_at number_at tokens_from next expect taken sign not_sign steps chain pair window_length called enclosed factor term sum cmp not and or opened whole reading
language_on_literals = tt

unfoldable pub tables_on_literals : ⊤
unfolding values.whole values.amount values.symbol values.new_symbol values.window_day values.resolution values.kind values.verb values.period only row optional array_row table_of text_row none_row text_if window costs settings bars security next_security securities_from securities selection universe_table universe order update cancel rule_texts next_texts texts_from all_texts expression expression_if action_of rule_of rules_from rules plan_of_table plan
tables_on_literals = tt

unfoldable pub plan_on_literals : ⊤
unfolding is_utf8 chars encode_utf8 toml_on_literals days_from_civil day_count days_of_years days_of_months language_on_literals tables_on_literals
plan_on_literals = tt
