use Rattle.lean_top.proofs.WordLemmas.{many_words}
use Rattle.lean_top.proofs.words.read_word_and_workers.Goals as goal

pub returns-in-len4-up-clause-value : goal.returns-in-len4-up-clause-value
returns-in-len4-up-clause-value c = many_words c.args.words.now c.in-len4-up.len_at_least
