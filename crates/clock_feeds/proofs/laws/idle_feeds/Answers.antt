use Rattle.clock_feeds.proofs.ListLemmas.{items_skip}
use Rattle.clock_feeds.proofs.SliceLemmas.{bar_early, bar_late, items_start}
use Rattle.clock_feeds.proofs.laws.idle_feeds.Goals as goal

pub returns-clause-early : goal.returns-clause-early
returns-clause-early c = bar_early

pub returns-clause-late : goal.returns-clause-late
returns-clause-late c = bar_late

pub returns-clause-skipped : goal.returns-clause-skipped
returns-clause-skipped c = items_skip

pub returns-clause-started : goal.returns-clause-started
returns-clause-started c = items_start
