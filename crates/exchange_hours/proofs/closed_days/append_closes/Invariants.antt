-- What is appended and the early closes that are left are together what the object began with.
use Rattle.std.proofs.Common.{◌≡◌, Ok}
use Rattle.serde_json.specs.View.{members_view}
use Rattle.exchange_hours.specs.HoursFile.{both, each, named, early_close}
use Rattle.exchange_hours.proofs.closed_days.append_closes.Given as goal

abbrev pub invariant-loop-date : goal.invariant-loop-date
invariant-loop-date l =
    both (Ok l.out.items) (each early_close (named (members_view l.date-iterator)))
    ≡ both (Ok l.fn.out.items) (each early_close (named (members_view l.members.entries)))
