use Rattle.std.proofs.Common.{◌-◌, sym, arith}
use Rattle.std.proofs.lemmas.Option.{slice_get_within}
use Rattle.order_book.proofs.KeptLemmas.{kept_put}
use Rattle.order_book.proofs.OrderLemmas.{found_place, replaced_set}
use Rattle.order_book.proofs.PlaceLemmas.{waits_set}
use Rattle.order_book.proofs.ledger.Ledger.put.Goals as goal

pub overflow_sub-place : goal.overflow_sub-place
overflow_sub-place c = (found_place c.args.order.id c.args.self.now.orders.items c.requires.there.0 c.requires.kept.orders.numbered c.requires.there.1).least

pub index_mut-requires : goal.index_mut-requires
index_mut-requires c =
    omega (arith, slice_get_within c.args.self.now.orders.items (c.args.order.id - 1) c.requires.there.0 (found_place c.args.order.id c.args.self.now.orders.items c.requires.there.0 c.requires.kept.orders.numbered c.requires.there.1).at, c.args.self.now.orders.ok.0)

pub returns-clause-kept : goal.returns-clause-kept
returns-clause-kept c = record {
  orders =
      kept_put c.args.self.now.portfolio c.args.self.now.orders.items (c.args.order.id - 1) c.requires.there.0 c.args.order c.requires.kept.orders (found_place c.args.order.id c.args.self.now.orders.items c.requires.there.0 c.requires.kept.orders.numbered c.requires.there.1).at
      c.requires.there.2 (found_place c.args.order.id c.args.self.now.orders.items c.requires.there.0 c.requires.kept.orders.numbered c.requires.there.1).back c.requires.rests c.requires.open;
  waits =
      waits_set c.args.self.now.waiting.entries c.args.self.now.orders.items (c.args.order.id - 1) c.requires.there.0 c.args.order (found_place c.args.order.id c.args.self.now.orders.items c.requires.there.0 c.requires.kept.orders.numbered c.requires.there.1).at
      c.requires.there.3 (λ lives. c.requires.there.2) c.requires.kept.waits;
}

pub returns-clause-orders : goal.returns-clause-orders
returns-clause-orders c =
    sym (replaced_set 1 (c.args.order.id - 1) c.args.self.now.orders.items c.args.order c.requires.kept.orders.numbered (found_place c.args.order.id c.args.self.now.orders.items c.requires.there.0 c.requires.kept.orders.numbered c.requires.there.1).back)
