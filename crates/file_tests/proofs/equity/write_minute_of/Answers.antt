use Rattle.std.proofs.Common.{sym, arith}
use Rattle.file_tests.proofs.equity.write_minute_of.Goals as goal

pub write_minute-requires : goal.write_minute-requires
write_minute-requires c = c.minute_row_is_valid.ensures.row 15985 _ c.in-Ok.row (omega arith) (sym c.in-Ok.ensures)
