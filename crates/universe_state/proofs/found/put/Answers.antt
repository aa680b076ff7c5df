use Rattle.std.proofs.Common.{◌∙◌, ap, map}
use Rattle.universe_state.specs.Entries.{active_of}
use Rattle.universe_state.proofs.Lookups.{put_is}
use Rattle.universe_state.proofs.found.put.Goals as goal

pub returns-clause-ok : goal.returns-clause-ok
returns-clause-ok c = ap (map active_of) c.in_ok-insert.ensures.entries ∙ put_is c.args.symbol c.args.member c.args.members.now.entries
