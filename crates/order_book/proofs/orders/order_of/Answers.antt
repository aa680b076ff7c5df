use Rattle.std.proofs.Common.{rules, ◌≡◌, ◌+◌, ◌-◌, ◌==◌, sym, ap, ◌∙◌, arith}
use Rattle.std.specs.List.{find, slice_get}
use Rattle.std.proofs.lemmas.Option.{gets}
use Rattle.lean_orders.specs.declared.order.Order.{Order}
use Rattle.order_book.proofs.OrderLemmas.{find_before, find_at_id, found_itself}
use Rattle.order_book.proofs.orders.order_of.Goals as goal

pub returns-then-id-eq0-clause-value : goal.returns-then-id-eq0-clause-value
returns-then-id-eq0-clause-value c = sym (find_before 1 c.args.id c.args.orders.now c.requires.numbered (omega (arith, c.if-id-eq0.true)))

pub returns-clause-value : goal.returns-clause-value
returns-clause-value c =
    let at : c.copied.result ≡ slice_get c.args.orders.now (c.args.id - 1) = search (rules, gets) in
    let id : 1 + (c.args.id - 1) ≡ c.args.id = omega (arith, c.if-id-eq0.false) in
    at ∙ sym (find_at_id 1 (c.args.id - 1) c.args.orders.now c.requires.numbered)
    ∙ ap (λ n. find (λ (o : Order). o.id == n) c.args.orders.now) id

pub returns-clause-itself : goal.returns-clause-itself
returns-clause-itself c = found_itself c.args.id c.args.orders.now c.copied.result (sym (returns-clause-value c))
