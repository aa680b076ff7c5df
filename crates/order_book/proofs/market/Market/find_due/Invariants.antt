use Rattle.std.proofs.Common.{ℕ, ◌<◌, length}
use Rattle.std.specs.List.{All}
use Rattle.std.specs.Arc.{arc_value}
use Rattle.order_book.specs.Due.{FindsAt}
use Rattle.order_book.specs.Waiting.{Waits}
use Rattle.order_book.proofs.market.Market.find_due.Given as goal

abbrev pub invariant-loop-i : goal.invariant-loop-i
invariant-loop-i l = record {
  waits : Waits l.waiting.entries l.orders;
  found : (j : ℕ) → j < l.i → FindsAt l.self.costs (arc_value l.self.hours) l.self.bars.entries j l.orders l.due.items;
  within : All (λ k. k < length l.orders) l.due.items;
}
