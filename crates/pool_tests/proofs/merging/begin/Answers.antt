-- The feed that was begun is open where its head is a row, and the others are as they were.
use Rattle.std.proofs.Common.{◌==◌, cond, ap, ◌∙◌}
use Rattle.std.specs.Prelude.{not}
use Rattle.lean_items.specs.Given.{is_last}
use Rattle.pool_tests.proofs.OpenLemmas.{open-begun}
use Rattle.pool_tests.proofs.merging.begin.Goals as goal

pub returns-clause-opened : goal.returns-clause-opened
returns-clause-opened g c =
    let feed = c.in_ok-feed.feed in
    let item = c.first_head-item.result in
    rw c.in_ok-set.ensures.ok
    (open-begun (g.P.Pool.is_open c.args.pool.now) (g.P.Pool.is_open c.first_head-item.new.pool) feed item c.args.heads.now
    (λ n. c.first_head-item.ensures.opened n ∙ ap (cond (n == feed.0) (not (is_last item))) (c.in_ok-feed.ensures.opened n))
    c.requires.opened)
