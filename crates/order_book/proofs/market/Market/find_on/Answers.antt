use Rattle.std.proofs.Common.{◌≡◌}
use Rattle.std.specs.Arc.{arc_value}
use Rattle.order_book.proofs.PlaceLemmas.{waits_pruned, grows_by, finds_filter}
use Rattle.order_book.proofs.ServesLemmas.{on_ok}
use Rattle.order_book.specs.Waiting.{Waits}
use Rattle.order_book.proofs.market.Market.find_on.Goals as goal

pub returns-clause-waits : goal.returns-clause-waits
returns-clause-waits c =
    waits_pruned c.args.waiting.now.entries c.prune.new.waiting.entries c.args.orders.now c.args.symbol c.prune.ensures c.requires.waits

pub returns-clause-grows : goal.returns-clause-grows
returns-clause-grows c =
    grows_by c.add_due.result c.args.self.now.costs (arc_value c.args.self.now.hours) c.args.bar.now c.args.orders.now c.places_of-2.result.now c.args.due.now.items
    c.add_due.new.due.items c.add_due.ensures.ok c.add_due.ensures.err

pub returns-clause-found : goal.returns-clause-found
returns-clause-found c =
    let waits : Waits c.prune.new.waiting.entries c.args.orders.now =
    waits_pruned c.args.waiting.now.entries c.prune.new.waiting.entries c.args.orders.now c.args.symbol c.prune.ensures c.requires.waits in
    on_ok c.add_due.result
    (finds_filter c.args.self.now.costs (arc_value c.args.self.now.hours) c.args.symbol c.args.bar.now c.args.orders.now c.prune.new.waiting.entries c.places_of-2.result.now
    c.args.due.now.items c.add_due.new.due.items waits c.places_of-2.ensures) c.add_due.ensures.ok
