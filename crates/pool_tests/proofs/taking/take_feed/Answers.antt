-- One more item was taken.
use Rattle.std.proofs.Common.{◌≡◌, ◌++◌, ◌∷◌, [], sym, rules, true}
use Rattle.lean_items.specs.Given.{is_last}
use Rattle.pool_tests.proofs.TookLemmas.{Took, took-none, took-more}
use Rattle.pool_tests.proofs.taking.take_feed.Goals as goal

pub items-init : goal.items-init
items-init g c = record {
  took = rw c.new-items.ensures.items (took-none g.G.Feed.leaves g.G.Feed.faults c.args.feed.now);
  ended = c.requires;
}

pub items-preserved : goal.items-preserved
items-preserved g c =
    let feed = g.G.Feed in
    let item = c.next-item.result in
    let last : c.is_last-open.result ≡ is_last item = c.is_last-open.ensures in
    let pushed : c.push.new.self.items ≡ c.items.items.items ++ item ∷ [] = search rules in
    let took : Took feed.leaves feed.faults c.args.feed.now c.items.feed true c.items.items.items = rw (sym c.items-test.true) c.items.invariant.took in
    record {
      took = rw (last, pushed) (took-more feed.leaves feed.faults c.args.feed.now c.items.feed c.next-item.new.self c.items.items.items took
          c.next-item.ensures.grows item c.next-item.ensures.rose c.next-item.ensures.gives);
      ended = search rules;
    }
