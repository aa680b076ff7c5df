use Rattle.std.proofs.Common.{◌≡◌, ◌∷◌, ap, sym, subst, ◌∙◌, suc, drop, drop-cons, arith}
use Rattle.backtest_core.specs.Inside.{bars_in}
use Rattle.backtest_core.specs.Slices.{AreInOrder}
use Rattle.backtest_core.specs.Watching.{first_bar}
use Rattle.backtest_core.proofs.ListLemmas.{stops-here, order-drop}
use Rattle.backtest_core.proofs.watching.find_bar.Goals as goal

pub returns-then-arrival-feed-clause-found : goal.returns-then-arrival-feed-clause-found
returns-then-arrival-feed-clause-found c = λ order.
    let slice = c.args.slice.now in
    let place = c.loop-place.place in
    let arrival = c.index-slice-place.result in
    let here : drop place slice ≡ arrival ∷ drop (suc place) slice =
    drop-cons slice place arrival c.loop-place-test.true ∙ ap (λ a. a ∷ drop (suc place) slice) (sym c.index-slice-place.is) in
    let ordered : AreInOrder (arrival ∷ drop (suc place) slice) = subst AreInOrder here (order-drop place slice order) in
    ap first_bar
    (sym (c.loop-place.invariant c.args.feed.0 (omega arith)
    ∙ (ap (λ l. bars_in l c.args.feed.0) here
    ∙ stops-here c.args.feed.0 arrival (drop (suc place) slice) c.if-arrival-feed.true ordered)))
