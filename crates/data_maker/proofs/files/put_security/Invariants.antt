-- The files of the days that were passed are put, and the walk stands before those of the others.
use Rattle.std.proofs.Common.{◌≡◌, ◌+◌, ◌-◌, ◌*◌, ◌<◌, ◌≤◌, filter}
use Rattle.std.specs.List.{range_with_len}
use Rattle.lean_io.specs.MemFolder.{map_files}
use Rattle.data_maker.specs.MadeFiles.{with_files, with_days, is_workday, security_files}
use Rattle.data_maker.proofs.files.put_security.Given as goal

abbrev pub invariant-loop-day : goal.invariant-loop-day
invariant-loop-day l = record {
  files : with_days (map_files l.files) l.symbol l.walk.random l.walk.price (filter is_workday (range_with_len l.day (15997 - l.day))) ≡ with_files (map_files l.fn.files) (security_files l.number l.security);
  range : l.walk.random < 2147483648;
  least : 10000 ≤ l.walk.price;
  most : l.walk.price + 390000 * 15985 ≤ 1150000 + 390000 * l.day;
}
