use Rattle.clock_book.proofs.LearntLemmas.{commands_ids, commands-told}
use Rattle.clock_book.proofs.laws.seen_by_replies.Goals as goal

pub returns-clause-seen : goal.returns-clause-seen
returns-clause-seen c = commands-told

pub returns-clause-numbered : goal.returns-clause-numbered
returns-clause-numbered c = commands_ids
