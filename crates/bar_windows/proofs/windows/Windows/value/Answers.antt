use Rattle.bar_windows.proofs.Together.{valued}
use Rattle.bar_windows.proofs.windows.Windows.value.Goals as goal

pub returns : goal.returns
returns c =
    valued c.args.self.now c.self.inside.closes c.self.inside.windows.items c.args.index c.index.result.now c.value.result
    c.self.invariant c.self.view_is c.requires c.index.ensures c.value.ensures
