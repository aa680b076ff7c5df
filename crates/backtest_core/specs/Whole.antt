-- Whole phases: all commands of one are given, and then all replies of the book are heard.
use Rattle.std.specs.Prelude.{List, [], ◌∷◌}
use Rattle.std.specs.List.{fold}
use Rattle.lean_orders.specs.declared.desk.Command.{Command}
use Rattle.lean_orders.specs.declared.desk.Reply.{Reply}
use Rattle.clock_book.specs.Books.{Book}
use Rattle.clock_book.specs.Handled.{replies}
use Rattle.backtest_core.specs.declared.phase.Phase.{Phase}
use Rattle.backtest_core.specs.Inside.{Inside, entered, next, hearing}

unfoldable pub given_all : List Command → Inside → Inside
given_all [] i = i
given_all (c ∷ cs) i = given_all cs (next i)

unfoldable pub heard_all : List Reply → Inside → Inside
heard_all heard i = fold (λ i reply. hearing reply i) i heard

unfoldable pub through : Phase → Book → Inside → Inside
through phase book i =
    let begun = entered phase i in
    heard_all (replies book begun.left) (given_all begun.left begun)
