use Rattle.std.proofs.Common.{rules, ◌≡◌, ◌+◌, [], ◌∷◌, ◌++◌, None, length, sym, subst}
use Rattle.std.specs.Arc.{arc_value}
use Rattle.lean_orders.specs.declared.desk.Reply.TheVariants.{Done}
use Rattle.lean_orders.specs.declared.event.What.TheVariants as what
use Rattle.lean_orders.specs.declared.order.Kind.TheVariants.{Market}
use Rattle.lean_orders.specs.declared.order.OrderState.TheVariants.{Filled}
use Rattle.clock_book.specs.Handled.{said}
use Rattle.clock_book.specs.Submits.{fill_at}
use Rattle.fill_models.specs.FillPrice.{side_of}
use Rattle.trade_costs.specs.Fees.{slipped}
use Rattle.portfolio.specs.Stands.{StandsFor}
use Rattle.order_book.specs.Judged.{made_order}
use Rattle.order_book.specs.Kept.{Kept}
use Rattle.order_book.proofs.ServesLemmas.{serves_trade}
use Rattle.order_book.proofs.book.Book.trade.Goals as goal

pub returns-clause-ok : goal.returns-clause-ok
returns-clause-ok c =
    let costs : c.self.inside.market.costs ≡ c.args.self.now.costs = search rules in
    let leverage : c.self.inside.leverage ≡ c.args.self.now.leverage = search rules in
    let hours : arc_value c.self.inside.market.hours ≡ c.args.self.now.hours = search rules in
    let bars : c.self.inside.market.bars.entries ≡ c.args.self.now.bars = search rules in
    let fills : c.add_filled.new.self.fills.items ≡ c.args.self.now.fills ++ c.fill_at_once-fill.result ∷ [] = search rules in
    let order : c.made_order-order.result ≡ made_order (length c.args.self.now.orders + 1) c.args.at c.args.request.now Market Filled = search rules in
    let orders : c.add_filled.new.self.orders.items
    ≡ c.args.self.now.orders ++ made_order (length c.args.self.now.orders + 1) c.args.at c.args.request.now Market Filled ∷ [] =
    search rules in
    let fill : c.fill_at_once-fill.result
    ≡ fill_at c.args.self.now.costs c.args.request.now.symbol c.args.request.now.quantity.0
    (slipped c.args.self.now.costs c.args.price.0 (side_of c.args.request.now.quantity.0)) =
    search rules in
    let told : c.say.new.out.items
    ≡ c.args.out.now.items
    ++ said c.args.at (length c.args.self.now.orders + 1) c.args.request.now.symbol (what.Submitted Market c.args.request.now.quantity None None)
    ∷ said c.args.at (length c.args.self.now.orders + 1) c.args.request.now.symbol (what.Filled c.fill_at_once-fill.result) ∷ Done ∷ [] =
    search rules in
    serves_trade c.args.self.now _ c.args.at c.args.request.now c.args.price.0 c.fill_at_once-fill.result c.args.out.now.items c.say.new.out.items costs leverage hours bars
    (λ start earlier marks stands. c.add_filled.ensures.account start earlier marks
    (c.in_ok-reserve_fill.ensures.account start earlier marks (subst (λ (kept : Kept). StandsFor kept.account start earlier marks) (sym c.self.view_is) stands))) fills orders fill told
