use Rattle.std.proofs.Common.{rules, ◌≡◌, ◌==◌, Some, None, [], ◌∷◌, subst}
use Rattle.std.specs.List.{find}
use Rattle.clock_book.specs.Handled.{done, cancel_found}
use Rattle.lean_orders.specs.declared.order.Order.{Order}
use Rattle.order_book.specs.Serves.{Serves}
use Rattle.order_book.proofs.ServesLemmas.{on_ok, serves_by}
use Rattle.order_book.proofs.book.Book.cancel.Goals as goal

pub returns-in-None-clause-ok : goal.returns-in-None-clause-ok
returns-in-None-clause-ok c =
    let none : find (λ (x : Order). x.id == c.args.id) c.args.self.now.orders ≡ None = search rules in
    on_ok c.reply.result
    (λ serves. serves_by (λ o book. cancel_found book c.args.at c.args.id o) 0 c.args.id None c.args.self.now c.args.self.now c.args.out.now.items c.reply.new.out.items none
    (subst (λ r. Serves (λ book. done (r ∷ []) book) 0 c.args.self.now c.args.self.now c.args.out.now.items c.reply.new.out.items) c.unknown.ensures serves)) c.reply.ensures.ok

pub returns-in-Some-clause-ok : goal.returns-in-Some-clause-ok
returns-in-Some-clause-ok c =
    let some : find (λ (x : Order). x.id == c.args.id) c.args.self.now.orders ≡ Some c.in-Some.order = search rules in
    on_ok c.cancel_order.result
    (serves_by (λ o book. cancel_found book c.args.at c.args.id o) 0 c.args.id (Some c.in-Some.order) c.args.self.now c.cancel_order.new.self c.args.out.now.items
    c.cancel_order.new.out.items some) c.cancel_order.ensures.ok
