use Rattle.std.proofs.Common.{refl}
use Rattle.rule_lang.specs.Tokens.{front_of, word_at, sign_at, number_at, tokens_from}
use Rattle.rule_lang.specs.Grammar.{next, expect, taken, sign, not_sign, steps, chain, pair, window_length, called, enclosed, factor, term, sum, cmp, not, and, or, opened, whole}
use Rattle.rule_lang.specs.Reading.{reading}
use Rattle.rule_lang.proofs.worked.worked_faults.Goals as goal

pub returns-clause-unknown : goal.returns-clause-unknown
unfolding reading whole opened or and not not_sign cmp sum term factor enclosed called window_length expect next taken pair chain steps sign tokens_from front_of word_at sign_at number_at
returns-clause-unknown c = refl

pub returns-clause-places : goal.returns-clause-places
unfolding reading whole opened or and not not_sign cmp sum term factor enclosed called window_length expect next taken pair chain steps sign tokens_from front_of word_at sign_at number_at
returns-clause-places c = refl

pub returns-clause-at_end : goal.returns-clause-at_end
unfolding reading whole opened or and not not_sign cmp sum term factor enclosed called window_length expect next taken pair chain steps sign tokens_from front_of word_at sign_at number_at
returns-clause-at_end c = refl

pub returns-clause-length : goal.returns-clause-length
unfolding reading whole opened or and not not_sign cmp sum term factor enclosed called window_length expect next taken pair chain steps sign tokens_from front_of word_at sign_at number_at
returns-clause-length c = refl

pub returns-clause-levels : goal.returns-clause-levels
unfolding reading whole opened or and not not_sign cmp sum term factor enclosed called window_length expect next taken pair chain steps sign tokens_from front_of word_at sign_at number_at
returns-clause-levels c = refl

pub returns-clause-operand : goal.returns-clause-operand
unfolding reading whole opened or and not not_sign cmp sum term factor enclosed called window_length expect next taken pair chain steps sign tokens_from front_of word_at sign_at number_at
returns-clause-operand c = refl

pub returns-clause-kind : goal.returns-clause-kind
unfolding reading whole opened or and not not_sign cmp sum term factor enclosed called window_length expect next taken pair chain steps sign tokens_from front_of word_at sign_at number_at
returns-clause-kind c = refl
