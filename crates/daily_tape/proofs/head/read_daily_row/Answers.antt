-- A row that is read starts at 00:00 of its day.
use Rattle.std.proofs.Common.{sym}
use Rattle.daily_tape.proofs.DayStarts.{daily_row-is}
use Rattle.daily_tape.proofs.head.read_daily_row.Goals as goal

pub invariant_of-result : goal.invariant_of-result
invariant_of-result c = record { daily = daily_row-is c.args.text.now c.in_ok-row.row (sym c.in_ok-row.ensures) }
