use Rattle.std.proofs.Common.{◌≡◌, ◌+◌, false, List, ◌++◌}
use Rattle.lean_orders.specs.declared.desk.Command.{Command as Asked}
use Rattle.lean_orders.specs.declared.desk.Reply.{Reply as Answer}
use Rattle.clock_book.specs.Books.{Book as ClockBook}
use Rattle.order_desk.specs.Served.{dones}
use Rattle.desk_tests.specs.Calls.{replies_of, ticketed}
use Rattle.desk_tests.proofs.serving.hear_all.Given as goal

abbrev pub invariant-replies : goal.invariant-replies
invariant-replies g l = record {
  fed : g.D.Desk.starved l.desk ≡ false;
  submitted : g.D.Desk.submitted l.desk ≡ g.D.Desk.submitted l.fn.desk;
  orders : g.D.Desk.orders l.desk ≡ g.D.Desk.orders l.fn.desk;
  answered : l.lost ≡ false → g.D.Desk.answered l.desk ≡ g.D.Desk.answered l.fn.desk + dones (replies_of l.heard.items);
  tickets : l.lost ≡ false → l.heard.items ≡ ticketed (g.D.Desk.answered l.fn.desk + 1) (replies_of l.heard.items);
  stands : l.lost ≡ false → (s : ClockBook) (cs : List Asked) (rs : List Answer) → g.D.Desk.stands l.fn.desk s cs rs
      → g.D.Desk.stands l.desk s cs (rs ++ replies_of l.heard.items);
}

abbrev pub decreases-replies : goal.decreases-replies
decreases-replies g l = g.D.Desk.room l.desk
