-- Where no head stops the merge, none is found.
use Rattle.std.proofs.Common.{◌≡◌, false, sym, subst}
use Rattle.std.specs.List.{All}
use Rattle.lean_items.specs.declared.arrival.Arrival.{Arrival}
use Rattle.frontier_sync.specs.declared.seen.Seen.TheVariants.{Calm}
use Rattle.frontier_sync.specs.Heads.{stops}
use Rattle.frontier_sync.specs.Seen.{IsSeen}
use Rattle.frontier_sync.proofs.SeenLemmas.{none-stops}
use Rattle.frontier_sync.proofs.heads.Heads.stop.Goals as goal

pub returns-in-Calm-clause-first : goal.returns-in-Calm-clause-first
returns-in-Calm-clause-first c =
    let known : IsSeen c.self.inside.heads.items (Calm c.in-Calm.field-0) = subst (IsSeen c.self.inside.heads.items) c.in-Calm.is c.self.invariant.1 in
    sym (none-stops c.args.self.now (subst (λ heads. All (λ (a : Arrival). stops a.item ≡ false) heads) c.self.view_is known.0))
