use Rattle.std.proofs.Common.{◌≡◌, ◌<◌, ℕ, length, slice_index_or, None}
use Rattle.lean_fixed.specs.Calendar.{weekday}
use Rattle.exchange_hours.specs.Sessions.{usual_span}
use Rattle.exchange_hours.proofs.table.usual_spans.Given as goal

abbrev pub invariant-loop-day : goal.invariant-loop-day
invariant-loop-day l =
    (length l.table.items ≡ l.day) × ((day : ℕ) → day < l.day → slice_index_or l.table.items day None ≡ usual_span l.segments (weekday day))
