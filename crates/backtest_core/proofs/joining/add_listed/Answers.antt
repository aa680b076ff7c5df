use Rattle.std.proofs.Common.{◌++◌, ◌∷◌, [], ap, ◌∙◌}
use Rattle.std.proofs.lemmas.List.{map-append}
use Rattle.backtest_core.specs.Waiting.{subscription_in, subscriptions_in}
use Rattle.backtest_core.proofs.joining.add_listed.Goals as goal

pub returns-clause-listed : goal.returns-clause-listed
returns-clause-listed c = λ t at.
    ap subscriptions_in c.in_ok-push.ensures.items
    ∙ (map-append subscription_in c.args.out.now.items (c.listed.result ∷ [])
    ∙ ap (λ s. subscriptions_in c.args.out.now.items ++ s ∷ []) (c.listed.ensures t at))
