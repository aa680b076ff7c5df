use Rattle.std.proofs.Common.{refl, sym, ◌∙◌}
use Rattle.backtest_core.specs.Inside.{choice_in}
use Rattle.backtest_core.specs.Beginning.{with_slice}
use Rattle.backtest_core.proofs.CoreLemmas.{too-many-heard}
use Rattle.backtest_core.proofs.standing.Core.arrive.Goals as goal

pub returns-in-Ok-true-clause-stops : goal.returns-in-Ok-true-clause-stops
returns-in-Ok-true-clause-stops c = λ t v lines stands at waiting slice.
    let begun = c.begin_moment.ensures.begins t v lines stands at waiting in
    let chosen = c.in-Ok-true.ensures.chooses t (with_slice c.args.slice.now v) (c.hear_bars.ensures.hears t v begun slice) in
    (refl, (sym (sym c.in-Ok-true.field-0-test ∙ (chosen.1 ∙ too-many-heard c.args.slice.now v (choice_in v c.args.slice.now))), chosen.0))

pub returns-in-Ok-false-clause-arrived : goal.returns-in-Ok-false-clause-arrived
returns-in-Ok-false-clause-arrived c = λ t v lines stands at waiting slice.
    let begun = c.begin_moment.ensures.begins t v lines stands at waiting in
    let chosen = c.in-Ok-false.ensures.chooses t (with_slice c.args.slice.now v) (c.hear_bars.ensures.hears t v begun slice) in
    (sym (sym c.in-Ok-false.field-0-test ∙ (chosen.1 ∙ too-many-heard c.args.slice.now v (choice_in v c.args.slice.now))), chosen.0)
