use Rattle.std.proofs.Common.{refl}
use Rattle.rule_lang.specs.Tokens.{front_of, word_at, sign_at, number_at, tokens_from}
use Rattle.rule_lang.specs.Grammar.{next, expect, taken, sign, not_sign, steps, chain, pair, window_length, called, enclosed, factor, term, sum, cmp, not, and, or, opened, whole}
use Rattle.rule_lang.specs.Reading.{reading}
use Rattle.rule_lang.specs.Tree.{windows_in}
use Rattle.rule_lang.specs.Values.{number_of, truth_of}
use Rattle.rule_lang.proofs.worked.worked_values.Goals as goal

pub returns-clause-product : goal.returns-clause-product
unfolding reading whole opened or and not not_sign cmp sum term factor enclosed called window_length expect next taken pair chain steps sign tokens_from front_of word_at sign_at number_at number_of truth_of windows_in
returns-clause-product c = refl

pub returns-clause-quotient : goal.returns-clause-quotient
unfolding reading whole opened or and not not_sign cmp sum term factor enclosed called window_length expect next taken pair chain steps sign tokens_from front_of word_at sign_at number_at number_of truth_of windows_in
returns-clause-quotient c = refl

pub returns-clause-zero : goal.returns-clause-zero
unfolding reading whole opened or and not not_sign cmp sum term factor enclosed called window_length expect next taken pair chain steps sign tokens_from front_of word_at sign_at number_at number_of truth_of windows_in
returns-clause-zero c = refl

pub returns-clause-place : goal.returns-clause-place
unfolding reading whole opened or and not not_sign cmp sum term factor enclosed called window_length expect next taken pair chain steps sign tokens_from front_of word_at sign_at number_at number_of truth_of windows_in
returns-clause-place c = λ view a b. refl

pub returns-clause-missing : goal.returns-clause-missing
unfolding reading whole opened or and not not_sign cmp sum term factor enclosed called window_length expect next taken pair chain steps sign tokens_from front_of word_at sign_at number_at number_of truth_of windows_in
returns-clause-missing c = λ view a b. refl
