use Rattle.std.proofs.Common.{sym, ◌∙◌}
use Rattle.consolidators.proofs.InRange.{numbers_told}
use Rattle.backtest_core.proofs.FollowLemmas.{can-take}
use Rattle.backtest_core.proofs.watching.is_fit.Goals as goal

pub is_behind-requires-clause-start : goal.is_behind-requires-clause-start
is_behind-requires-clause-start c = (numbers_told c.args.bar.now (sym c.is_in_range.ensures ∙ c.if-is_in_range.true)).start

pub returns-then-is_in_range-clause-takes : goal.returns-then-is_in_range-clause-takes
returns-then-is_in_range-clause-takes c = λ longer period ends fit.
    can-take longer c.args.period c.args.until.0 c.args.bar.now period ends (sym c.is_in_range.ensures ∙ c.if-is_in_range.true)
    (sym c.is_behind.ensures.tests ∙ fit)
