use Rattle.std.proofs.Common.{◌≡◌, ◌<◌, ℕ, length, slice_index_or, None}
use Rattle.exchange_hours.specs.Sessions.{usual_span}
use Rattle.exchange_hours.proofs.table.usual_week.Given as goal

abbrev pub invariant-loop-weekday : goal.invariant-loop-weekday
invariant-loop-weekday l =
    (length l.week ≡ 7) × ((weekday : ℕ) → weekday < l.weekday → slice_index_or l.week weekday None ≡ usual_span l.segments weekday)
