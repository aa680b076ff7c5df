use Rattle.std.proofs.Common.{subst, arith}
use Rattle.lean_fixed.specs.Moments.{midnight}
use Rattle.exchange_hours.specs.Sessions.{LieInDays}
use Rattle.exchange_hours.proofs.GridLemmas.{grid_lies}
use Rattle.exchange_hours.proofs.NextLemmas.{next_on_day, next_past, next_later}
use Rattle.exchange_hours.proofs.market_hours.Hours.end_between.Goals as goal

pub returns-then-end-until : goal.returns-then-end-until
returns-then-end-until c = next_on_day _ c.args.after (midnight c.loop-day.day) c.args.until c.in-Some.end c.loop-day.invariant c.in-Some.ensures (omega arith)

pub returns-else-end-until : goal.returns-else-end-until
returns-else-end-until c = next_past _ c.args.after (midnight c.loop-day.day) c.args.until c.in-Some.end c.loop-day.invariant c.in-Some.ensures (omega arith)

pub loop-day-preserved : goal.loop-day-preserved
loop-day-preserved c = λ t g past. omega (arith, next_later _ c.args.after (midnight c.loop-day.day) c.loop-day.invariant c.in_default.ensures t g past)

pub returns : goal.returns
returns c =
    λ t g past within. omega (arith, c.loop-day.invariant t g past, grid_lies c.args.self.now c.args.resolution t (subst LieInDays c.self.view_is c.self.invariant.within) g)
