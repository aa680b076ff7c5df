-- A feed with filled bars gives fewer than 2 ^ 40 rows: the moments of a window are fewer, and so are the rows of a feed.
use Rattle.std.specs.Prelude.{ℕ, ◌+◌, ◌^◌, ◌<◌, ◌≤◌, ℤ, pos, negsuc, neg_ℤ, ◌-ℤ◌, ◌≤ℤ◌, Option, Some, None}
use Rattle.std.proofs.Common.{arith}
use Rattle.std.proofs.lemmas.Int.{ints}
use Rattle.lean_fixed.specs.declared.resolution.Resolution.{Resolution}
use Rattle.lean_io.specs.declared.outside.Hand.{Ghosts}
use Rattle.feed_paths.specs.Files.{from_1970}
use Rattle.row_feed.specs.Feed.{key_of, room_of}
use Rattle.row_feed.specs.Few.{few_rows}
use Rattle.fill_forward.specs.declared.filled_feed.FilledFeed.{FilledFeed}
use Rattle.fill_forward.specs.Again.{grid_of}
use Rattle.fill_forward.specs.Feed.{moments_left, room_by, room}

from_1970_few : (z : ℤ) (n : ℕ) → z ≤ℤ pos n → from_1970 z ≤ n
from_1970_few (pos t) n le = omega (arith, ints)
from_1970_few (negsuc t) n le = omega (arith, ints)

room_few : (grid : Option Resolution) (rows moments : ℕ) → rows + 1 < 2 ^ 40 → moments + 1 < 2 ^ 40 → room_by grid rows moments + 1 < 2 ^ 40
room_few None rows moments few some = few
room_few (Some resolution) rows moments few some = some

module _ {H : Type 0} {g : Ghosts H} where
  pub few_left : (feed : FilledFeed H g) → room feed + 1 < 2 ^ 40
  few_left feed =
      let low : neg_ℤ (pos 10000) ≤ℤ feed.at.0 = feed.low in
      let high : feed.until.0 ≤ℤ pos 121000000 = feed.within in
      let z : (feed.until.0 -ℤ feed.at.0) ≤ℤ pos 121010000 = omega (arith, ints) in
      room_few (grid_of (key_of feed.rows)) (room_of feed.rows) (moments_left feed.until.0 feed.at.0) (few_rows feed.rows) (omega (arith, from_1970_few _ _ z))
