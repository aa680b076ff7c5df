-- The grid ends that are not yet looked at are the ends of bars of the day in hand and of later days.
use Rattle.std.proofs.Common.{ℕ, ◌<◌}
use Rattle.lean_fixed.specs.Moments.{midnight}
use Rattle.exchange_hours.specs.Grid.{IsGridEnd}
use Rattle.exchange_hours.proofs.market_hours.Hours.end_between.Given as goal

abbrev pub invariant-loop-day : goal.invariant-loop-day
invariant-loop-day l = (t : ℕ) → IsGridEnd l.self l.resolution t → l.after < t → midnight l.day < t
