use Rattle.std.proofs.Common.{subst, sym, not, ◌==◌}
use Rattle.frontier_sync.specs.Heads.{AreRising}
use Rattle.frontier_sync.proofs.PlaceLemmas.{rising-filter}
use Rattle.frontier_sync.proofs.heads.Heads.forget.Goals as goal

pub invariant_of-self : goal.invariant_of-self
invariant_of-self c =
    (subst (λ xs. AreRising xs) (sym c.forget.ensures) (rising-filter (λ a. not (a.feed.0 == c.args.feed.0)) c.self.inside.heads.items c.self.invariant.0), tt)
