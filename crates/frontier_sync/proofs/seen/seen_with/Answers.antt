-- A head that does not stop the merge, and the earlier of the least end and its own.
use Rattle.std.proofs.Common.{◌≡◌, false, ◌∷◌, [], ◌++◌, sym, ◌∙◌, subst}
use Rattle.frontier_sync.specs.declared.seen.Seen.TheVariants.{Calm}
use Rattle.frontier_sync.specs.Heads.{stops}
use Rattle.frontier_sync.specs.Seen.{IsSeen}
use Rattle.frontier_sync.proofs.SeenLemmas.{calm-more}
use Rattle.frontier_sync.proofs.seen.seen_with.Goals as goal

pub returns-else-stops : goal.returns-else-stops
returns-else-stops c heads head is seen =
    let item = c.args.item.now in
    let calm : stops item ≡ false = sym c.stops.ensures ∙ c.if-stops.false in
    let known : IsSeen heads (Calm c.in-Calm.least) = subst (IsSeen heads) c.in-Calm.is seen in
    subst (λ least. IsSeen (heads ++ head ∷ []) (Calm least)) (sym c.earlier.ensures) (calm-more heads head item c.in-Calm.least c.end_of.result is calm c.end_of.ensures known)
