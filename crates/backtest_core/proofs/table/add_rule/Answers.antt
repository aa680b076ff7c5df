use Rattle.backtest_core.proofs.TableLemmas.{adds-rule}
use Rattle.backtest_core.proofs.table.add_rule.Goals as goal

pub returns : goal.returns
returns c =
    adds-rule _ _ _ _ _ _ c.args.rule.now c.in_ok-when.ensures c.in_ok-quantity.ensures c.in_ok-price.ensures c.in_ok-limit.ensures
