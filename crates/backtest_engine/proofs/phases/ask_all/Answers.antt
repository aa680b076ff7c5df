use Rattle.std.proofs.Common.{◌+◌, ◌≤◌, arith, [], ◌∷◌, ◌++◌}
use Rattle.clock_book.specs.Fitting.{submits}
use Rattle.backtest_engine.proofs.PhaseLemmas.{goes-submitted, goes-same, gives-some, of-some}
use Rattle.backtest_engine.proofs.phases.ask_all.Goals as goal

pub commands-preserved : goal.commands-preserved
commands-preserved g c =
    let inv = c.commands.invariant in
    let (ds, goes, plays) = inv.known in
    let command = c.in-Ok-Some.command in
    let some = c.in-Ok-Some in
    let (left, orders) = of-some (λ command. (g.C.Strategy.left c.next_command.new.self + 1 ≤ g.C.Strategy.left c.commands.core)
    × (g.C.Strategy.orders c.next_command.new.self + submits command ≤ g.C.Strategy.orders c.commands.core)) command some.field-0 some.field-0-is some.ensures.fewer in
    record {
      known = (
        ds ++ command ∷ [],
        goes-submitted (g.D.Desk.stands c.args.desk.now) (g.D.Desk.stands c.commands.desk) (g.D.Desk.stands c.submit.new.self) ds command goes
            (λ b cs rs h. c.in-Ok.ensures.stands b cs rs h),
        λ m turn h is.
            gives-some m (g.C.Strategy.plays c.next_command.new.self m) turn ds command some.field-0 some.field-0-is (some.ensures.gives m turn ds (plays m turn h is) is),
      );
      fed = c.in-Ok.ensures.starved;
      few = omega (arith, inv.few, c.in-Ok.ensures.submitted, left);
      orders = omega (arith, inv.orders, c.in-Ok.ensures.orders, orders);
    }

pub returns-in-Err-submit-clause-asked : goal.returns-in-Err-submit-clause-asked
returns-in-Err-submit-clause-asked g c =
    let (ds, goes, plays) = c.commands.invariant.known in (
      ds,
      goes-same (g.D.Desk.stands c.args.desk.now) (g.D.Desk.stands c.commands.desk) (g.D.Desk.stands c.submit.new.self) ds [] goes
          (λ b cs rs h. c.in-Err-submit.ensures.stands b cs rs h),
      λ m turn h is. tt,
    )
