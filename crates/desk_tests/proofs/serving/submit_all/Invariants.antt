use Rattle.std.proofs.Common.{◌≡◌, ◌+◌, false, List, ◌++◌, length}
use Rattle.std.specs.Vec.Iter.{into_iter_items, into_iter_len}
use Rattle.lean_orders.specs.declared.desk.Command.{Command as Asked}
use Rattle.lean_orders.specs.declared.desk.Reply.{Reply as Answer}
use Rattle.clock_book.specs.Books.{Book as ClockBook}
use Rattle.desk_tests.specs.Calls.{orders_of}
use Rattle.desk_tests.proofs.serving.submit_all.Given as goal

abbrev pub invariant-loop-command : goal.invariant-loop-command
invariant-loop-command g l = record {
  split : l.yielded ++ into_iter_items l.command-iterator ≡ l.fn.commands.items;
  count : into_iter_len l.command-iterator ≡ length (into_iter_items l.command-iterator);
  fed : g.D.Desk.starved l.desk ≡ false;
  submitted : g.D.Desk.submitted l.desk ≡ g.D.Desk.submitted l.fn.desk + length l.yielded;
  orders : g.D.Desk.orders l.desk ≡ g.D.Desk.orders l.fn.desk + orders_of l.yielded;
  answered : g.D.Desk.answered l.desk ≡ g.D.Desk.answered l.fn.desk;
  stands : (s : ClockBook) (cs : List Asked) (rs : List Answer) → g.D.Desk.stands l.fn.desk s cs rs
      → g.D.Desk.stands l.desk s (cs ++ l.yielded) rs;
}
