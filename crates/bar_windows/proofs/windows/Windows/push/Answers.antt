use Rattle.bar_windows.proofs.Together.{push_heard}
use Rattle.bar_windows.proofs.windows.Windows.push.Goals as goal

pub invariant_of-self : goal.invariant_of-self
invariant_of-self c =
    push_heard c.self.inside.closes c.push.new.self c.self.inside.windows.items c.hear_all.new.windows.items c.args.close
    c.self.invariant c.push.ensures c.hear_all.ensures.specs c.hear_all.ensures.heard
