-- The holidays up to the one in hand have no hours.
use Rattle.std.proofs.Common.{◌≡◌, ℕ, ◌==◌, if◌then◌else◌, take, slice_index_or, None}
use Rattle.std.specs.List.{list_any}
use Rattle.exchange_hours.proofs.table.close_on_holidays.Given as goal

abbrev pub invariant-loop-holiday : goal.invariant-loop-holiday
invariant-loop-holiday l =
    (day : ℕ) → slice_index_or l.table day None ≡ (if list_any (λ h. h == day) (take l.holiday-index l.holidays) then None else slice_index_or l.fn.table day None)
