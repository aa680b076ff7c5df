use Rattle.std.proofs.Common.{rules, filter, ap, ◌∙◌}
use Rattle.std.proofs.lemmas.Fn.{filter_same}
use Rattle.order_book.specs.Resting.{is_live_at}
use Rattle.order_book.proofs.places.Places.prune.Goals as goal

pub returns : goal.returns
returns c =
    filter_same _ (is_live_at c.args.orders.now) _ (λ x b f k. search rules) c.self.inside.items.items c.retain.new.self.items c.retain.ensures.filtered
    ∙ ap (filter (is_live_at c.args.orders.now)) c.self.view_is
