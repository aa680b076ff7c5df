use Rattle.std.proofs.Common.{sym}
use Rattle.file_tests.proofs.equity.write_hour_of.Goals as goal

pub write_dated-requires-clause-row : goal.write_dated-requires-clause-row
write_dated-requires-clause-row c = c.dated_row_is_valid.ensures.row _ _ c.in-Ok.row (sym c.in-Ok.ensures)

pub write_dated-requires-clause-whole : goal.write_dated-requires-clause-whole
write_dated-requires-clause-whole c = c.dated_row_is_valid.ensures.whole _ _ c.in-Ok.row (sym c.in-Ok.ensures)
