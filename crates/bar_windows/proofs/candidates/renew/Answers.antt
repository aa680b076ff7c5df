use Rattle.bar_windows.proofs.Ranks.{renew_is}
use Rattle.bar_windows.proofs.candidates.renew.Goals as goal

pub returns : goal.returns
returns c =
    renew_is c.args.func c.args.leaving c.args.close c.args.kept.now c.drop_leaving.new.kept c.drop_beaten.new.kept c.push_back.new.self
    c.drop_leaving.ensures c.drop_beaten.ensures c.push_back.ensures.items
