use Rattle.clock_feeds.proofs.GrowLemmas.{grow, idle, none, now, end, rise}
use Rattle.clock_feeds.proofs.laws.bars_grow.Goals as goal

pub returns-clause-grow : goal.returns-clause-grow
returns-clause-grow c = grow

pub returns-clause-idle : goal.returns-clause-idle
returns-clause-idle c = idle

pub returns-clause-none : goal.returns-clause-none
returns-clause-none c = none

pub returns-clause-now : goal.returns-clause-now
returns-clause-now c = now

pub returns-clause-end : goal.returns-clause-end
returns-clause-end c = end

pub returns-clause-rise : goal.returns-clause-rise
returns-clause-rise c = rise
