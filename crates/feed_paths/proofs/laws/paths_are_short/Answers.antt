use Rattle.feed_paths.proofs.PathLemmas.{short_equity, short_coarse}
use Rattle.feed_paths.proofs.laws.paths_are_short.Goals as goal

pub returns-clause-equity : goal.returns-clause-equity
returns-clause-equity c = short_equity c.day_reads_back.ensures.eight

pub returns-clause-coarse : goal.returns-clause-coarse
returns-clause-coarse c = short_coarse c.day_reads_back.ensures.eight
