-- The early closes up to the one in hand have ended their days.
use Rattle.std.proofs.Common.{◌≡◌, ℕ, take, slice_index_or, None}
use Rattle.exchange_hours.specs.Sessions.{early_close, shortened}
use Rattle.exchange_hours.proofs.table.close_early.Given as goal

abbrev pub invariant-loop-close : goal.invariant-loop-close
invariant-loop-close l =
    (day : ℕ) → slice_index_or l.table day None ≡ shortened (slice_index_or l.fn.table day None) (early_close (take l.close-index l.closes) day)
