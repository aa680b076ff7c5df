use Rattle.std.proofs.Common.{ap, sym, ◌∙◌, arith}
use Rattle.std.proofs.lemmas.Option.{slice_get_within}
use Rattle.clock_book.specs.Books.{is_live}
use Rattle.order_book.proofs.KeptLemmas.{kept_same}
use Rattle.order_book.proofs.PlaceLemmas.{waits_set}
use Rattle.order_book.proofs.ledger.Ledger.set_off.Goals as goal

pub index_mut-requires : goal.index_mut-requires
index_mut-requires c =
    omega (arith, slice_get_within c.args.self.now.orders.items c.args.place c.args.order.now c.requires.there, c.args.self.now.orders.ok.0)

pub returns-clause-kept : goal.returns-clause-kept
returns-clause-kept c = record {
  orders =
      kept_same c.args.self.now.portfolio c.args.self.now.orders.items c.args.place c.args.order.now c.args.first.now c.requires.kept.orders c.requires.there c.requires.id c.requires.state
      c.requires.rests;
  waits =
      waits_set c.args.self.now.waiting.entries c.args.self.now.orders.items c.args.place c.args.order.now c.args.first.now c.requires.there c.requires.same
      (λ lives. ap is_live (sym c.requires.state) ∙ lives) c.requires.kept.waits;
}
