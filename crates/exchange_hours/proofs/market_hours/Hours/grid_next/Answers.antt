use Rattle.std.proofs.Common.{Some, None, sym, subst}
use Rattle.lean_fixed.specs.declared.time.Moment.{Moment}
use Rattle.exchange_hours.specs.Grid.{IsGridEnd}
use Rattle.exchange_hours.specs.Next.{IsNext}
use Rattle.exchange_hours.proofs.GridLemmas.{grid_lies}
use Rattle.exchange_hours.proofs.NextLemmas.{next_from_nearest}
use Rattle.exchange_hours.proofs.market_hours.Hours.grid_next.Goals as goal

pub returns-in-Some : goal.returns-in-Some
returns-in-Some c =
    let IsAnswer : Moment → Type 0 = λ m. IsNext (IsGridEnd c.args.self.now c.args.resolution) c.args.after.0 c.args.until.0 (Some m) in
    subst IsAnswer (sym c.moment_at.ensures) (next_from_nearest _ c.args.after.0 c.args.until.0 _ _ (Some c.in-Some.end) (λ t g. grid_lies c.args.self.now c.args.resolution t c.sessions_lie.ensures g) c.minute_of.ensures c.minute_of-2.ensures c.in-Some.ensures)

pub returns-in-None : goal.returns-in-None
returns-in-None c =
    next_from_nearest _ c.args.after.0 c.args.until.0 _ _ None (λ t g. grid_lies c.args.self.now c.args.resolution t c.sessions_lie.ensures g) c.minute_of.ensures c.minute_of-2.ensures c.in-None.ensures
