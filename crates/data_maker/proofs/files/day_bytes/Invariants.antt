-- The rows that were passed stand in the text, and those left are those of the walk where it stands.
use Rattle.std.proofs.Common.{◌≡◌, ℕ, ◌+◌, ◌-◌, ◌*◌, ◌<◌, ◌≤◌, List, ◌++◌, take, drop}
use Rattle.std.specs.List.{flat_map}
use Rattle.data_maker.specs.Walk.{walked}
use Rattle.data_maker.specs.MadeFiles.{row_line, minutes}
use Rattle.data_maker.proofs.Walking.{rows_left}
use Rattle.data_maker.proofs.files.day_bytes.Given as goal

abbrev pub invariant-loop-minute : goal.invariant-loop-minute
invariant-loop-minute l = record {
  text : (later : List ℕ) → l.out.items ++ flat_map row_line (take (960 - l.minute) (rows_left l.walk.random l.walk.price (l.midnight + l.minute) (960 - l.minute) later)) ≡ flat_map row_line (take 390 (walked l.fn.walk.random l.fn.walk.price (minutes l.day ++ later)));
  left : (later : List ℕ) → drop (960 - l.minute) (rows_left l.walk.random l.walk.price (l.midnight + l.minute) (960 - l.minute) later) ≡ drop 390 (walked l.fn.walk.random l.fn.walk.price (minutes l.day ++ later));
  range : l.walk.random < 2147483648;
  least : 10000 ≤ l.walk.price;
  most : l.walk.price + 570000 ≤ l.fn.walk.price + 1000 * l.minute;
}
