use Rattle.std.proofs.Common.{◌≤◌, length, sym, subst}
use Rattle.std.specs.List.{All}
use Rattle.lean_fixed.specs.Ranges.{IsMoment}
use Rattle.backtest_engine.proofs.OpeningLemmas.{keys-whole, few-keys, start-keys}
use Rattle.backtest_engine.proofs.opening.opening_keys.Goals as goal

pub returns-clause-keys : goal.returns-clause-keys
returns-clause-keys c =
    keys-whole c.args.plan.now c.first_moment-start.result c.securities_of.result.now c.new-keys.result.items c.add_coarse.new.out.items c.add_listed.new.out.items
    c.new-keys.ensures.items c.securities_of.ensures c.in_ok-add_coarse.ensures.keys c.first_moment-start.ensures c.in_ok-add_listed.ensures.keys

pub returns-clause-few : goal.returns-clause-few
returns-clause-few c = subst (λ keys. length keys ≤ 1000) (sym (returns-clause-keys c)) (few-keys c.args.plan.now c.requires)

pub returns-clause-starts : goal.returns-clause-starts
returns-clause-starts c = subst (λ keys. All (λ key. IsMoment key.start.0) keys) (sym (returns-clause-keys c)) (start-keys c.args.plan.now c.requires)
