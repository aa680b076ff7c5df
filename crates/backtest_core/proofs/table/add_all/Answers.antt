use Rattle.backtest_core.proofs.TableLemmas.{adds-next}
use Rattle.backtest_core.proofs.table.add_all.Goals as goal

pub loop-window-preserved : goal.loop-window-preserved
loop-window-preserved c =
    adds-next _ _ _ _ _ c.args.windows.now c.loop-window.window-index _ c.in_ok-place.place c.requires c.loop-window-test.true c.loop-window.invariant
    c.in_ok-place.ensures c.in_ok-push.ensures.items
