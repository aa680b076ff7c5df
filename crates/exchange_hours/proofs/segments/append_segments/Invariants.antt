-- What is appended and the segments that are left are together what the list began with.
use Rattle.std.proofs.Common.{◌≡◌, Ok}
use Rattle.exchange_hours.specs.HoursFile.{both, segment}
use Rattle.exchange_hours.proofs.ReadingLemmas.{left}
use Rattle.exchange_hours.proofs.segments.append_segments.Given as goal

abbrev pub invariant-loop-value : goal.invariant-loop-value
invariant-loop-value l =
    both (Ok l.out.items) (left (segment l.weekday) l.list.items l.value-index)
    ≡ both (Ok l.fn.out.items) (left (segment l.weekday) l.list.items 0)
