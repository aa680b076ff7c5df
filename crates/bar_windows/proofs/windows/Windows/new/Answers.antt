use Rattle.bar_windows.proofs.Together.{new_heard}
use Rattle.bar_windows.proofs.windows.Windows.new.Goals as goal

pub invariant_of-result : goal.invariant_of-result
invariant_of-result c =
    new_heard c.in_ok-closes.closes c.in_ok-windows.windows.items c.args.specs.now c.longest.result c.in_ok-closes.ensures c.in_ok-windows.ensures.specs c.longest.ensures c.in_ok-windows.ensures.heard
