use Rattle.std.proofs.Common.{sym, subst}
use Rattle.order_book.specs.Resting.{AreKept}
use Rattle.order_book.specs.Waiting.{Waits}
use Rattle.order_book.proofs.KeptLemmas.{kept_push}
use Rattle.order_book.proofs.PlaceLemmas.{waits_push}
use Rattle.order_book.proofs.ledger.Ledger.add.Goals as goal

pub returns-clause-kept : goal.returns-clause-kept
returns-clause-kept c = record {
  orders = subst (AreKept c.args.self.now.portfolio) (sym c.push_reserved.ensures.items)
      (kept_push c.args.self.now.portfolio c.args.self.now.orders.items c.args.order c.requires.kept.orders c.requires.fewer c.requires.id c.requires.rests c.requires.open);
  waits = subst (Waits c.args.self.now.waiting.entries) (sym c.push_reserved.ensures.items)
      (waits_push c.args.self.now.waiting.entries c.args.self.now.orders.items c.args.order c.requires.kept.waits c.requires.place);
}
