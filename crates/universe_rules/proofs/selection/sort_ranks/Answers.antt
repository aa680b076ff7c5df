use Rattle.universe_rules.proofs.Sorting.{sorted_is}
use Rattle.universe_rules.proofs.selection.sort_ranks.Goals as goal

pub returns : goal.returns
returns c = sorted_is c.args.ranks.now.items c.sort_unstable.new.self.items c.sort_unstable.ensures.permutation c.sort_unstable.ensures.sorted
