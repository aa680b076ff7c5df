use Rattle.std.proofs.Common.{◌≡◌, ◌≤◌, length, filter, take}
use Rattle.clock_book.specs.Books.{is_live}
use Rattle.report_stats.proofs.summary.live_orders.Given as goal

abbrev pub invariant-loop-order : goal.invariant-loop-order
invariant-loop-order l = (l.live ≡ length (filter (λ order. is_live order.state) (take l.order-index l.orders))) × (l.live ≤ l.order-index)
