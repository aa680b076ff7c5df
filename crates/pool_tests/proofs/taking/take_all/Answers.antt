-- What `finish` says of every feed, at the one feed that was added.
use Rattle.std.proofs.Common.{◌∙◌}
use Rattle.lean_items.specs.Taken.{Taken}
use Rattle.pool_tests.specs.Each.{only}
use Rattle.pool_tests.proofs.OnlyLemmas.{only-here}
use Rattle.pool_tests.proofs.taking.take_all.Goals as goal

pub returns-clause-follow : goal.returns-clause-follow
returns-clause-follow g c before stands lists told =
    let taken : Taken = record { key = c.args.key; items = c.items.items.items } in
    c.finish.ensures.follow before (only c.in_ok-feed.feed.0 taken) (c.items.invariant.taken before stands) lists (c.items.invariant.lists ∙ told)
    c.in_ok-feed.feed.0 taken (only-here c.in_ok-feed.feed.0 taken)

pub returns-clause-rose : goal.returns-clause-rose
returns-clause-rose g c before stands =
    let taken : Taken = record { key = c.args.key; items = c.items.items.items } in
    c.finish.ensures.rose before (only c.in_ok-feed.feed.0 taken) (c.items.invariant.taken before stands)
    c.in_ok-feed.feed.0 taken (only-here c.in_ok-feed.feed.0 taken)

pub returns-clause-hands : goal.returns-clause-hands
returns-clause-hands g c before stands =
    let taken : Taken = record { key = c.args.key; items = c.items.items.items } in
    c.finish.ensures.hands before (only c.in_ok-feed.feed.0 taken) (c.items.invariant.taken before stands)
