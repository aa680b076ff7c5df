use Rattle.std.proofs.Common.{sym, subst}
use Rattle.clock_feeds.specs.Grid.{start_of}
use Rattle.clock_feeds.specs.Known.{feed_bars_of}
use Rattle.clock_feeds.specs.Stands.{EndBy}
use Rattle.clock_feeds.proofs.OnGridLemmas.{feed_on_grid, in_period, apart, behind_all}
use Rattle.clock_feeds.proofs.laws.bars_are_on_grid.Goals as goal

pub returns-clause-grid : goal.returns-clause-grid
returns-clause-grid c = feed_on_grid

pub returns-clause-period : goal.returns-clause-period
returns-clause-period c = in_period

pub returns-clause-apart : goal.returns-clause-apart
returns-clause-apart c = apart

pub returns-clause-before : goal.returns-clause-before
returns-clause-before c =
    λ files hours window key symbol resolution before t bar every kind low is.
    subst (λ k. EndBy (start_of bar) (feed_bars_of files hours window key k before)) (sym kind)
    (behind_all files hours window key symbol resolution before t bar every low is)
