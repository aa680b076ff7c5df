use Rattle.std.proofs.Common.{◌∙◌, ap, map}
use Rattle.universe_state.specs.Active.{without_symbol}
use Rattle.universe_state.specs.Entries.{active_of}
use Rattle.universe_state.proofs.Lookups.{left_is}
use Rattle.universe_state.proofs.universe.Universe.leave.Goals as goal

pub returns : goal.returns
returns c =
    ap (map active_of) c.shift_remove.ensures.entries ∙ left_is c.args.symbol c.self.inside.members.entries
    ∙ ap (without_symbol c.args.symbol) c.self.view_is
