use Rattle.std.proofs.Common.{◌≡◌, ℕ, List, map, take}
use Rattle.std.specs.HashSet.{contains}
use Rattle.universe_rules.specs.Passing.{is_same, passing}
use Rattle.universe_rules.specs.Ranks.{rank_of}
use Rattle.universe_rules.proofs.FirstRows.{seen_in}
use Rattle.universe_rules.proofs.ranks.ranks_of.Given as goal

abbrev pub invariant-loop-row : goal.invariant-loop-row
invariant-loop-row l =
    (l.ranks.items ≡ map rank_of (passing l.rule (take l.row-index l.rows)))
    × ((q : List ℕ) → contains is_same l.seen q ≡ seen_in q (take l.row-index l.rows))
