use Rattle.std.proofs.Common.{◌∙◌}
use Rattle.frontier_sync.proofs.PlaceLemmas.{seen-removed, seen-absent}
use Rattle.frontier_sync.proofs.places.forget.Goals as goal

pub returns-then-stands_at : goal.returns-then-stands_at
returns-then-stands_at c =
    c.remove.ensures.items
    ∙ seen-removed c.args.feed.0 c.deref.result.now c.deref-2.result.now c.args.heads.now.items c.place_of-place.result c.deref.ensures.value c.deref-2.ensures.value c.place_of-place.ensures.lower
    (c.stands_at.ensures.there c.if-stands_at.true)

pub returns-else-stands_at : goal.returns-else-stands_at
returns-else-stands_at c =
    seen-absent c.args.feed.0 c.deref.result.now c.deref-2.result.now c.args.heads.now.items c.place_of-place.result c.deref.ensures.value c.deref-2.ensures.value c.place_of-place.ensures.lower
    (c.stands_at.ensures.absent c.if-stands_at.false)
