use Rattle.std.proofs.Common.{rules, ◌≡◌, ◌==◌, Some, None, [], ◌∷◌, subst}
use Rattle.std.specs.List.{find}
use Rattle.clock_book.specs.Handled.{done, update_found}
use Rattle.lean_orders.specs.declared.order.Order.{Order}
use Rattle.portfolio.specs.Account.{held}
use Rattle.order_book.specs.Kept.{Kept}
use Rattle.order_book.specs.Resting.{RestsWhereLive}
use Rattle.order_book.specs.Serves.{Serves}
use Rattle.order_book.proofs.ServesLemmas.{on_ok, serves_by, all_found}
use Rattle.order_book.proofs.book.Book.update.Goals as goal

pub returns-in-None-clause-ok : goal.returns-in-None-clause-ok
returns-in-None-clause-ok c =
    let none : find (λ (x : Order). x.id == c.args.id) c.args.self.now.orders ≡ None = search rules in
    on_ok c.reply.result
    (λ serves. serves_by (λ o book. update_found book c.args.at c.args.id c.args.price o) 0 c.args.id None c.args.self.now c.args.self.now c.args.out.now.items c.reply.new.out.items none
    (subst (λ r. Serves (λ book. done (r ∷ []) book) 0 c.args.self.now c.args.self.now c.args.out.now.items c.reply.new.out.items) c.unknown.ensures serves)) c.reply.ensures.ok

pub returns-in-Some-clause-ok : goal.returns-in-Some-clause-ok
returns-in-Some-clause-ok c =
    let some : find (λ (x : Order). x.id == c.args.id) c.args.self.now.orders ≡ Some c.in-Some.order = search rules in
    on_ok c.update_order.result
    (serves_by (λ o book. update_found book c.args.at c.args.id c.args.price o) 0 c.args.id (Some c.in-Some.order) c.args.self.now c.update_order.new.self c.args.out.now.items
    c.update_order.new.out.items some) c.update_order.ensures.ok

pub update_order-requires-clause-rests : goal.update_order-requires-clause-rests
update_order-requires-clause-rests c =
    let some : find (λ (x : Order). x.id == c.args.id) c.args.self.now.orders ≡ Some c.in-Some.order = search rules in
    let P : Kept → Type 0 = λ kept. find (λ (x : Order). x.id == c.args.id) kept.orders ≡ Some c.in-Some.order → RestsWhereLive (held kept.account) c.in-Some.order in
    subst P c.self.view_is
    (all_found (RestsWhereLive (held c.self.inside.ledger.portfolio)) (λ (x : Order). x.id == c.args.id) c.self.inside.ledger.orders.items c.in-Some.order c.self.invariant.orders.resting)
    some
