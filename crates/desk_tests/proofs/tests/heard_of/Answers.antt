-- Few commands, all of which fit.
use Rattle.std.proofs.Common.{arith}
use Rattle.std.proofs.lemmas.List.Elements.{All-append}
use Rattle.clock_book.specs.Fitting.{IsFitting}
use Rattle.desk_tests.proofs.CallLemmas.{orders-append}
use Rattle.desk_tests.proofs.tests.heard_of.Goals as goal

pub serve-requires-clause-orders : goal.serve-requires-clause-orders
serve-requires-clause-orders g c =
    omega (
      arith,
      c.requires.orders,
      c.in_ok-first.ensures.orders,
      c.in_ok-second.ensures.orders,
      orders-append c.in_ok-first.first.items c.in_ok-second.second.items,
    )

pub serve-requires-clause-fitting : goal.serve-requires-clause-fitting
serve-requires-clause-fitting g c =
    All-append IsFitting c.in_ok-first.first.items c.in_ok-second.second.items c.in_ok-first.ensures.fitting c.in_ok-second.ensures.fitting
