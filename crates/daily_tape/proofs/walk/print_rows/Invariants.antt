use Rattle.std.proofs.Common.{◌≡◌, ◌+◌, ◌-◌, ◌*◌, ◌≤◌, List, length}
use Rattle.std.specs.List.{AllByRecursion, AllZip}
use Rattle.lean_fixed.specs.Calendar.{last_day}
use Rattle.lean_io.specs.Told.{Files}
use Rattle.daily_tape.specs.DailyTape.{Security}
use Rattle.report_pages.specs.Printed.{HasRoom}
use Rattle.daily_tape.specs.Source.{IsSound, Follows}
use Rattle.daily_tape.specs.Steps.{AllPast}
use Rattle.daily_tape.proofs.Walking.{Walked}
use Rattle.daily_tape.proofs.walk.print_rows.Given as goal

abbrev pub invariant-steps : goal.invariant-steps
invariant-steps g l =
    AllByRecursion (IsSound g.H.Hand.is_open g.H.Hand.faults) l.sources.items
    × AllPast l.done l.sources.items
    × (l.done ≤ last_day + 1)
    × (l.rows ≤ 64 * l.done)
    × (length l.sources.items ≡ length l.fn.sources.items)
    × HasRoom l.page
    × (g.S.Sink.faults l.fn.out ≤ g.S.Sink.faults l.out)
    × ((f : Files) (all : List Security) → AllZip (Follows g.H.Hand.files g.H.Hand.rest f 0) all l.fn.sources.items
    → Walked g.H.Hand.files g.H.Hand.rest f all l.sources.items l.done l.rows (g.S.Sink.told l.fn.out) (g.S.Sink.told l.out) l.fn.page l.page)

abbrev pub decreases-steps : goal.decreases-steps
decreases-steps g l = last_day + 2 - l.done
