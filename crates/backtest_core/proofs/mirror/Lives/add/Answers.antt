use Rattle.backtest_core.proofs.LiveLemmas.{lists-more, on_ok}
use Rattle.backtest_core.proofs.mirror.Lives.add.Goals as goal

pub returns : goal.returns
returns c =
    on_ok c.add-2.result (λ ids live lists. lists-more _ _ _ _ live c.args.order.now c.in_ok-add.ensures ids lists) c.add-2.ensures
