use Rattle.std.proofs.Common.{rules, ◌==◌, ap, ◌∙◌}
use Rattle.std.specs.Prelude.{not}
use Rattle.std.proofs.lemmas.Fn.{filter_same}
use Rattle.lean_orders.specs.declared.order.Resting.{Resting}
use Rattle.clock_book.specs.Seen.{without_id}
use Rattle.backtest_core.proofs.orders.Orders.take_out.Goals as goal

pub returns : goal.returns
returns c =
    filter_same _ (λ (order : Resting). not (order.id == c.args.id)) _ (λ x b f k. search rules) c.self.inside.items.items c.retain.new.self.items c.retain.ensures.filtered
    ∙ ap (without_id c.args.id) c.self.view_is
