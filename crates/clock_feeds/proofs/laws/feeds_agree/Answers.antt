use Rattle.std.proofs.Common.{refl}
use Rattle.clock_feeds.proofs.AheadLemmas.{bars_agree, rows_agree, not_blocked}
use Rattle.clock_feeds.proofs.laws.feeds_agree.Goals as goal

pub returns-clause-bars : goal.returns-clause-bars
returns-clause-bars c =
    λ files other hours window t every is_window good fine agree key u low within.
    bars_agree files other hours window t every is_window good fine agree key key.kind refl u low within

pub returns-clause-rows : goal.returns-clause-rows
returns-clause-rows c =
    λ files other hours window t every is_window good fine agree key u is low within.
    rows_agree files other hours window t every is_window good fine agree key is u low within

pub returns-clause-open : goal.returns-clause-open
returns-clause-open c = λ files hours window good key t. not_blocked files hours window key good key.kind refl t
