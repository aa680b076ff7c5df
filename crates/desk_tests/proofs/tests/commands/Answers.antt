-- One more command was read.
use Rattle.std.proofs.Common.{◌≡◌, ◌++◌, ◌∷◌, [], length, ap, length-append, arith}
use Rattle.std.proofs.lemmas.List.Elements.{All-push}
use Rattle.clock_book.specs.Fitting.{IsFitting}
use Rattle.desk_tests.specs.Calls.{orders_of}
use Rattle.desk_tests.proofs.CallLemmas.{orders_more}
use Rattle.desk_tests.proofs.tests.commands.Goals as goal

pub lines-preserved : goal.lines-preserved
lines-preserved c =
    let before = c.lines.commands in
    let command = c.in_ok-command.field-0 in
    let pushed : c.push.new.self.items ≡ before.items ++ command ∷ [] = c.in_ok-push.ensures.items in
    record {
      fitting = rw pushed (All-push IsFitting before.items command c.lines.invariant.fitting c.in_ok-command.ensures);
      few = omega (arith, ap length pushed, length-append before.items (command ∷ []), c.if-len-ge1000.false, c.len.ensures, before.ok.0);
      orders = omega (arith, ap orders_of pushed, ap length pushed, length-append before.items (command ∷ []), orders_more before.items command, c.lines.invariant.orders);
    }
