use Rattle.std.proofs.Common.{◌∙◌}
use Rattle.frontier_sync.proofs.PlaceLemmas.{seen-written, seen-inserted}
use Rattle.frontier_sync.proofs.places.put.Goals as goal

pub returns-then-stands_at-clause-ok : goal.returns-then-stands_at-clause-ok
returns-then-stands_at-clause-ok c =
    seen-written c.args.head c.deref.result.now c.deref-2.result.now c.args.heads.now.items c.place_of-place.result c.deref.ensures.value c.deref-2.ensures.value c.place_of-place.ensures.lower
    (c.stands_at.ensures.there c.if-stands_at.true)

pub returns-in_ok-insert-clause-ok : goal.returns-in_ok-insert-clause-ok
returns-in_ok-insert-clause-ok c =
    c.in_ok-insert.ensures.items
    ∙ seen-inserted c.args.head c.deref.result.now c.deref-2.result.now c.args.heads.now.items c.place_of-place.result c.deref.ensures.value c.deref-2.ensures.value c.place_of-place.ensures.lower
    (c.stands_at.ensures.absent c.if-stands_at.false)
