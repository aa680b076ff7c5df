-- What is appended and the weekdays that are left are together the whole week.
use Rattle.std.proofs.Common.{◌≡◌, Ok}
use Rattle.serde_json.specs.View.{view}
use Rattle.exchange_hours.specs.HoursFile.{both, week}
use Rattle.exchange_hours.proofs.ReadingLemmas.{week_left}
use Rattle.exchange_hours.proofs.segments.read_week.Given as goal

abbrev pub invariant-loop-weekday : goal.invariant-loop-weekday
invariant-loop-weekday l =
    both (Ok l.out.items) (week_left l.weekday (view l.entry)) ≡ both (Ok l.fn.out.items) (week (view l.entry))
