use Rattle.std.proofs.Common.{◌∙◌, ◌||◌, sym, ap, drop, cond, ◌+◌}
use Rattle.std.proofs.lemmas.List.{at_drop_more}
use Rattle.lean_orders.specs.declared.order.Resting.{Resting}
use Rattle.portfolio.specs.Symbols.{same_symbol}
use Rattle.clock_book.specs.Seen.{without_id}
use Rattle.backtest_core.specs.Mirror.{listed, has_symbol}
use Rattle.backtest_core.proofs.LiveLemmas.{out-next}
use Rattle.backtest_core.proofs.live.take_out_all.Goals as goal

pub loop-order-preserved : goal.loop-order-preserved
loop-order-preserved c = λ s.
    let now = listed same_symbol c.loop-order.by_symbol.entries s in
    let rest = has_symbol s (drop (c.loop-order.order-index + 1) c.args.orders.now) in
    out-next c.args.id s c.order-item.result.symbol rest now _ (c.take_out.ensures s)
    ∙ ap (λ (o : Resting). cond (same_symbol s o.symbol || rest) (without_id c.args.id now) now) c.order-item.is
    ∙ sym (at_drop_more (λ xs. cond (has_symbol s xs) (without_id c.args.id now) now) c.args.orders.now c.loop-order.order-index c.order-item.result c.loop-order-test.true)
    ∙ c.loop-order.invariant s
