-- The thread has ended, and both lanes are settled.
use Rattle.std.proofs.Common.{inl, inr, ap, sym, ◌∙◌}
use Rattle.std.proofs.lemmas.Bool.{false≢true}
use Rattle.order_desk.proofs.LinkLemmas.{links-front, links-whole, parted}
use Rattle.order_desk.proofs.lane_desking.LaneDeskDesk.finish.Goals as goal

pub returns-clause-front : goal.returns-clause-front
returns-clause-front g c s cs rs linked =
    let parts = parted c.args.self _ _ s cs rs c.into_parts-ends.ensures.ends (ap (λ child. child.promise.0.value) c.into_parts-ends.ensures.child) linked in
    let left = c.join-server.ensures.left s parts.begun in
    links-front _ _ _ _ _ _ _ _ _ _ _ _ s cs rs left c.settle-commands.ensures.rest c.settle-replies.ensures.rest parts.links

pub returns-clause-whole : goal.returns-clause-whole
returns-clause-whole g c fed s cs rs linked =
    let parts = parted c.args.self _ _ s cs rs c.into_parts-ends.ensures.ends (ap (λ child. child.promise.0.value) c.into_parts-ends.ensures.child) linked in
    let left = c.join-server.ensures.left s parts.begun in
    elim c.requires [
      | inl starved ↦ absurd (false≢true (sym fed ∙ starved))
      | inr over ↦ links-whole _ _ _ _ _ _ _ _ _ _ _ _ s cs rs left c.settle-commands.ensures.rest c.settle-replies.ensures.rest over parts.links
    ]
