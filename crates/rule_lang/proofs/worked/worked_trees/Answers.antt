use Rattle.std.proofs.Common.{refl}
use Rattle.rule_lang.specs.Tokens.{front_of, word_at, sign_at, number_at, tokens_from}
use Rattle.rule_lang.specs.Grammar.{next, expect, taken, sign, not_sign, steps, chain, pair, window_length, called, enclosed, factor, term, sum, cmp, not, and, or, opened, whole}
use Rattle.rule_lang.specs.Reading.{reading}
use Rattle.rule_lang.proofs.worked.worked_trees.Goals as goal

pub returns-clause-left : goal.returns-clause-left
unfolding reading whole opened or and not not_sign cmp sum term factor enclosed called window_length expect next taken pair chain steps sign tokens_from front_of word_at sign_at number_at
returns-clause-left c = refl

pub returns-clause-closer : goal.returns-clause-closer
unfolding reading whole opened or and not not_sign cmp sum term factor enclosed called window_length expect next taken pair chain steps sign tokens_from front_of word_at sign_at number_at
returns-clause-closer c = refl

pub returns-clause-rule : goal.returns-clause-rule
unfolding reading whole opened or and not not_sign cmp sum term factor enclosed called window_length expect next taken pair chain steps sign tokens_from front_of word_at sign_at number_at
returns-clause-rule c = refl

pub returns-clause-denial : goal.returns-clause-denial
unfolding reading whole opened or and not not_sign cmp sum term factor enclosed called window_length expect next taken pair chain steps sign tokens_from front_of word_at sign_at number_at
returns-clause-denial c = refl
