use Rattle.std.proofs.Common.{Ok, sym, ap}
use Rattle.std.proofs.lemmas.Result.{err_from_is_err_and}
use Rattle.rule_strategy.specs.Settings.{costs}
use Rattle.rule_strategy.proofs.Chains.{fails_first}
use Rattle.rule_strategy.proofs.settings.read_costs.Goals as goal

pub returns-in_err-least : goal.returns-in_err-least
unfolding costs
returns-in_err-least c =
    let p = err_from_is_err_and c.from_residual-in_err-least.result c.from_residual-in_err-least.ensures.1 in
    rw (p.1, p.2, c.in_ok-per_share.ensures.value) (fails_first _ _ _ c.in_err-least.ensures.value)

pub returns-in_err-slip : goal.returns-in_err-slip
unfolding costs
returns-in_err-slip c =
    let p = err_from_is_err_and c.from_residual-in_err-slip.result c.from_residual-in_err-slip.ensures.1 in
    rw (p.1, p.2, c.in_ok-per_share.ensures.value, c.in_ok-least.ensures.value)
    (fails_first _ _ _ c.in_err-slip.ensures.value)

pub returns : goal.returns
unfolding costs
returns c =
    rw (c.in_ok-per_share.ensures.value, c.in_ok-least.ensures.value, c.in_ok-slip.ensures.value)
    (ap Ok (sym c.costs_of.ensures))
