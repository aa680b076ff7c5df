-- The replies of two phases are those of the book, each by itself.
use Rattle.std.proofs.Common.{◌≡◌, ◌+◌, [], subst, arith}
use Rattle.clock_book.specs.Fitting.{IsFitting}
use Rattle.order_desk.specs.Served.{dones}
use Rattle.desk_tests.specs.Calls.{replies_of, ticketed}
use Rattle.desk_tests.proofs.CallLemmas.{orders-append, all-first, all-last, not_starved, tickets-both}
use Rattle.desk_tests.proofs.PhaseLemmas.{early-is, late-is}
use Rattle.desk_tests.proofs.serving.serve.Goals as goal

pub phase-requires-clause-orders : goal.phase-requires-clause-orders
phase-requires-clause-orders g c = omega (arith, c.requires.orders, orders-append c.args.first.items c.args.second.items)

pub phase-requires-clause-fitting : goal.phase-requires-clause-fitting
phase-requires-clause-fitting g c = all-first IsFitting c.args.first.items c.args.second.items c.requires.fitting

pub phase-requires-in-Ok-clause-orders : goal.phase-requires-in-Ok-clause-orders
phase-requires-in-Ok-clause-orders g c =
    omega (arith, c.requires.orders, c.in-Ok.ensures.orders, orders-append c.args.first.items c.args.second.items)

pub phase-requires-in-Ok-clause-fitting : goal.phase-requires-in-Ok-clause-fitting
phase-requires-in-Ok-clause-fitting g c = all-last IsFitting c.args.first.items c.args.second.items c.requires.fitting

pub returns-in-Ok-phase-clause-early : goal.returns-in-Ok-phase-clause-early
returns-in-Ok-phase-clause-early g c s h =
    let early = replies_of c.in-Ok.early.items in
    let now = c.in-Ok.ensures.stands s [] [] h in
    let later = c.in-Ok-phase.ensures.stands s c.args.first.items early now in
    let all = c.finish-in-Ok-phase.ensures.whole c.in-Ok-phase.ensures.fed s _ _ later in
    let over = not_starved _ c.in-Ok.ensures.fed c.in-Ok.ensures.ends in
    early-is s c.args.first.items c.args.second.items early (replies_of c.in-Ok-phase.late.items)
    (g.met.D.Desk.counts c.phase.new.desk s c.args.first.items early now) over all.0

pub returns-in-Ok-phase-clause-late : goal.returns-in-Ok-phase-clause-late
returns-in-Ok-phase-clause-late g c s h =
    let early = replies_of c.in-Ok.early.items in
    let now = c.in-Ok.ensures.stands s [] [] h in
    let later = c.in-Ok-phase.ensures.stands s c.args.first.items early now in
    let all = c.finish-in-Ok-phase.ensures.whole c.in-Ok-phase.ensures.fed s _ _ later in
    let over = not_starved _ c.in-Ok.ensures.fed c.in-Ok.ensures.ends in
    late-is s c.args.first.items c.args.second.items early (replies_of c.in-Ok-phase.late.items)
    (g.met.D.Desk.counts c.phase.new.desk s c.args.first.items early now) over all.0

pub returns-in-Ok-phase-clause-tickets : goal.returns-in-Ok-phase-clause-tickets
returns-in-Ok-phase-clause-tickets g c =
    let early = c.in-Ok.early.items in
    let late = c.in-Ok-phase.late.items in
    let first : g.D.Desk.answered c.args.desk + 1 ≡ 1 = omega (arith, c.requires.answered) in
    let next : g.D.Desk.answered c.phase.new.desk + 1 ≡ 1 + dones (replies_of early) = omega (arith, c.in-Ok.ensures.answered, c.requires.answered) in
    tickets-both 1 early late
    (subst (λ n. early ≡ ticketed n (replies_of early)) first c.in-Ok.ensures.tickets)
    (subst (λ n. late ≡ ticketed n (replies_of late)) next c.in-Ok-phase.ensures.tickets)
