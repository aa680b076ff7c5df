use Rattle.std.proofs.Common.{◌≡◌, ◌+◌, ◌-◌, ◌≤◌, ◌++◌, filter, take, length}
use Rattle.std.specs.Vec.{vec_len, vec_capacity}
use Rattle.std.specs.Arc.{arc_value}
use Rattle.order_book.specs.Due.{changes_at}
use Rattle.order_book.proofs.market.Market.add_due.Given as goal

abbrev pub invariant-loop-i : goal.invariant-loop-i
invariant-loop-i l = record {
  added : l.due.items ≡ l.fn.due.items ++ filter (changes_at l.self.costs (arc_value l.self.hours) l.bar l.orders) (take l.i l.places);
  room : vec_len l.due + (length l.places - l.i) ≤ vec_capacity l.due;
}
