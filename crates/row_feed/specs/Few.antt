-- A feed gives fewer than 2 ^ 40 rows: of each day's file fewer than its lines.
use Rattle.std.specs.Prelude.{ℕ, ◌+◌, ◌^◌, ◌<◌, ◌≤◌, Bool, true, false}
use Rattle.std.proofs.Common.{arith}
use Rattle.lean_io.specs.declared.outside.Hand.{Ghosts}
use Rattle.line_source.specs.Reader.{number_of}
use Rattle.row_feed.specs.declared.feed.RowFeed.{RowFeed}
use Rattle.row_feed.specs.Reach.{files_left, lines_room, room}
use Rattle.row_feed.specs.Feed.{room_of}

files_few : (begun : Bool) (file : ℕ) → files_left begun file ≤ 84006
files_few true file = omega arith
files_few false file = omega arith

lines_few : (opened : Bool) (number : ℕ) → lines_room opened number ≤ 10_000_001
lines_few true number = omega arith
lines_few false number = omega arith

room_few : (files lines : ℕ) → files ≤ 84006 → lines ≤ 10_000_001 → room files lines + 1 < 2 ^ 40
room_few files lines few small = omega (arith, few, small)

module _ {H : Type 0} {g : Ghosts H} where
  pub few_rows : (feed : RowFeed H g) → room_of feed + 1 < 2 ^ 40
  few_rows feed =
      room_few (files_left feed.course.begun feed.course.file) (lines_room feed.reader.opened (number_of feed.reader.lines))
      (files_few feed.course.begun feed.course.file) (lines_few feed.reader.opened (number_of feed.reader.lines))
