use Rattle.std.proofs.Common.{rules, ◌≡◌, false, Some, None, sym, ap, ◌∙◌}
use Rattle.std.specs.List.{slice_get}
use Rattle.std.specs.Option.{option_map_or}
use Rattle.std.proofs.lemmas.Option.{gets}
use Rattle.std.specs.Arc.{arc_value}
use Rattle.order_book.specs.Due.{changes}
use Rattle.order_book.proofs.market.Market.changes_at.Goals as goal

pub changes-requires-clause-ranged : goal.changes-requires-clause-ranged
changes-requires-clause-ranged c =
    let at : slice_get c.args.orders.now c.args.place ≡ Some c.in-Some.order.now = search (rules, gets) in
    c.requires.ranged.each c.args.place c.in-Some.order.now at

pub returns-in-Some : goal.returns-in-Some
returns-in-Some c =
    let at : slice_get c.args.orders.now c.args.place ≡ Some c.in-Some.order.now = search (rules, gets) in
    c.changes.ensures ∙ sym (ap (λ o. option_map_or (changes c.args.self.now.costs (arc_value c.args.self.now.hours) c.args.bar.now) o false) at)

pub returns-in-None : goal.returns-in-None
returns-in-None c =
    let none : slice_get c.args.orders.now c.args.place ≡ None = search (rules, gets) in
    sym (ap (λ o. option_map_or (changes c.args.self.now.costs (arc_value c.args.self.now.hours) c.args.bar.now) o false) none)
