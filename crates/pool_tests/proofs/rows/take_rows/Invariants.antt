use Rattle.std.proofs.Common.{◌≡◌, false}
use Rattle.row_feed.specs.Feed.{has_ended, room_of}
use Rattle.pool_tests.proofs.rows.take_rows.Given as goal

abbrev pub invariant-rows : goal.invariant-rows
invariant-rows g l = has_ended l.rows ≡ false

abbrev pub decreases-rows : goal.decreases-rows
decreases-rows g l = room_of l.rows
