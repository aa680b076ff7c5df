use Rattle.clock_feeds.proofs.ListLemmas.{begins, told_bar, told_bad, told_end}
use Rattle.clock_feeds.proofs.laws.next_items.Goals as goal

pub returns-clause-begins : goal.returns-clause-begins
returns-clause-begins c = begins

pub returns-clause-bar : goal.returns-clause-bar
returns-clause-bar c = told_bar

pub returns-clause-bad : goal.returns-clause-bad
returns-clause-bad c = told_bad

pub returns-clause-end : goal.returns-clause-end
returns-clause-end c = told_end
