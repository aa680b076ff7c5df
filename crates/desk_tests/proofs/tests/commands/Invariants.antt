use Rattle.std.proofs.Common.{◌≤◌, length}
use Rattle.std.specs.List.{All}
use Rattle.clock_book.specs.Fitting.{IsFitting}
use Rattle.desk_tests.specs.Calls.{orders_of}
use Rattle.desk_tests.proofs.tests.commands.Given as goal

abbrev pub invariant-lines : goal.invariant-lines
invariant-lines l = record {
  fitting : All IsFitting l.commands.items;
  few : length l.commands.items ≤ 1000;
  orders : orders_of l.commands.items ≤ length l.commands.items;
}
