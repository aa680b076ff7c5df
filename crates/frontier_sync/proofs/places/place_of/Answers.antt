use Rattle.std.proofs.Common.{◌≤◌, subst}
use Rattle.std.proofs.lemmas.List.Elements.{All-more}
use Rattle.frontier_sync.proofs.PlaceLemmas.{Below, from-place}
use Rattle.frontier_sync.proofs.places.place_of.Goals as goal

pub returns-then-head-feed-clause-upper : goal.returns-then-head-feed-clause-upper
returns-then-head-feed-clause-upper c =
    from-place c.args.feed.0 c.loop-place.place c.args.heads.now c.index-heads-place.result c.requires c.loop-place-test.true
    (subst (λ a. c.args.feed.0 ≤ a.feed.0) c.index-heads-place.is c.if-head-feed.true)

pub loop-place-preserved : goal.loop-place-preserved
loop-place-preserved c =
    All-more (Below c.args.feed.0) c.args.heads.now c.loop-place.place c.index-heads-place.result c.loop-place-test.true c.loop-place.invariant
    (subst (Below c.args.feed.0) c.index-heads-place.is c.if-head-feed.false)
