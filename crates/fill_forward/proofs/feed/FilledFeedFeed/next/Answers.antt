use Rattle.std.proofs.Common.{ap, sym, ◌∙◌, pos}
use Rattle.lean_fixed.specs.Moments.{last_moment}
use Rattle.row_feed.specs.Feed.{key_of, at_of, has_ended}
use Rattle.fill_forward.specs.Again.{grid_of}
use Rattle.fill_forward.proofs.FeedLemmas.{held_on}
use Rattle.fill_forward.proofs.feed.FilledFeedFeed.next.Goals as goal

pub invariant_of-self-clause-held : goal.invariant_of-self-clause-held
invariant_of-self-clause-held g c =
    let feed = c.args.self.now in
    let later = c.next.new.self in
    let called = c.next.ensures in
    held_on (key_of feed.rows) (key_of later) _ _ (at_of feed.rows) (at_of later) (has_ended feed.rows) (has_ended later) feed.ahead c.next.result
    (ap grid_of (sym c.key.ensures) ∙ sym c.grid_of.ensures ∙ c.in-None.is) called.kept.key c.requires called.fits called.at feed.held

pub invariant_of-self-clause-end : goal.invariant_of-self-clause-end
invariant_of-self-clause-end g c =
    c.args.self.now.end ∙ ap (λ window. pos (last_moment window)) (sym c.next.ensures.kept.window)
