-- What a feed with filled bars holds, and what it leaves to give.
use Rattle.std.specs.Prelude.{◌≡◌, ℕ, ◌<◌, ◌≤◌, ℤ, ◌-ℤ◌, Bool, true, false, ◌&&◌, List, Option, Some, None}
use Rattle.lean_fixed.specs.Counts.{Rose}
use Rattle.lean_fixed.specs.declared.resolution.Resolution.{Resolution}
use Rattle.lean_io.specs.Told.{Files}
use Rattle.lean_io.specs.declared.outside.Hand.{Ghosts}
use Rattle.lean_items.specs.declared.bar.Bar.{Bar}
use Rattle.lean_items.specs.declared.item.Item.{Item}
use Rattle.row_feed.specs.declared.feed.RowFeed.{RowFeed}
use Rattle.lean_items.specs.Given.{is_last, OnRow, OnFaulted}
use Rattle.row_feed.specs.Feed.{hand_of, key_of, window_of, hours_of, has_ended, room_of, Leaves, Keeps}
use Rattle.row_feed.specs.Reading.{Reads}
use Rattle.feed_paths.specs.Files.{from_1970}
use Rattle.clock_feeds.specs.Bars.{Filling}
use Rattle.clock_feeds.specs.Feeds.{filling_of}
use Rattle.fill_forward.specs.declared.ahead.Ahead.{Ahead}
use Rattle.fill_forward.specs.declared.ahead.Ahead.TheVariants.{Nothing, Row, Over}
use Rattle.fill_forward.specs.declared.filled_feed.FilledFeed.{FilledFeed}
use Rattle.fill_forward.specs.Again.{grid_of}
use Rattle.fill_forward.specs.Leaves.{LeavesBars, LeavesBy}

abbrev pub is_nothing : Ahead → Bool
is_nothing Nothing = true
is_nothing (Row row) = false
is_nothing Over = false

-- the moments up to the window's end
abbrev pub moments_left : ℤ → ℤ → ℕ
moments_left until at = from_1970 (until -ℤ at)

abbrev pub room_by : Option Resolution → ℕ → ℕ → ℕ
room_by None rows moments = rows
room_by (Some resolution) rows moments = moments

module _ {H : Type 0} {g : Ghosts H} where
  abbrev pub rows_of : FilledFeed H g → RowFeed H g
  rows_of feed = feed.rows

  abbrev pub ahead_of : FilledFeed H g → Ahead
  ahead_of feed = feed.ahead

  abbrev pub last_of : FilledFeed H g → Option Bar
  last_of feed = feed.last

  -- where the last bar that was given ends, or before the first the start of the feed
  abbrev pub given_to : FilledFeed H g → ℤ
  given_to feed = feed.at.0

  abbrev pub filling : FilledFeed H g → Resolution → Filling
  filling feed resolution = filling_of (hours_of feed.rows) (window_of feed.rows) (key_of feed.rows) resolution

  -- the last item was given
  abbrev pub is_done : FilledFeed H g → Bool
  is_done feed = has_ended feed.rows && is_nothing feed.ahead

  abbrev pub left_of : FilledFeed H g → ℕ
  left_of feed = moments_left feed.until.0 feed.at.0

  -- no more rows than this are left: the moments of the window where bars are filled, or else what the rows leave
  abbrev pub room : FilledFeed H g → ℕ
  room feed = room_by (grid_of (key_of feed.rows)) (room_of feed.rows) (left_of feed)

  -- What a call does, whatever it gives, where the hand has met so many faults: behind a row fewer moments are left, behind a last
  -- item the feed is done, the hand forgets no fault and has met one where a read failed, and the rows keep what they were made
  -- with.
  pub record Goes (faults : H → ℕ) (old new : FilledFeed H g) (result : Item) : Type 0 where
    pub fewer : OnRow result (left_of new < left_of old)
    pub ended : is_done new ≡ is_last result
    pub grows : faults (hand_of (rows_of old)) ≤ faults (hand_of (rows_of new))
    pub rose : OnFaulted result (Rose (faults (hand_of (rows_of old))) (faults (hand_of (rows_of new))))
    pub kept : Keeps (rows_of old) (rows_of new)

  module _ (files : H → Option Files) (rest : H → List ℕ) (is_open : H → Bool) where
    -- these items are left to give, where the feed fills on the grid of a resolution
    abbrev pub LeavesFilled : FilledFeed H g → Resolution → List Item → Type 0
    LeavesFilled feed resolution items =
        LeavesBars (Leaves files rest is_open feed.rows) (filling feed resolution) feed.ahead feed.last (from_1970 feed.at.0) items

    -- these items are left to give, whatever the feed's key
    abbrev pub LeavesItems : FilledFeed H g → List Item → Type 0
    LeavesItems feed items =
        LeavesBy (Leaves files rest is_open feed.rows) (hours_of feed.rows) (window_of feed.rows) (key_of feed.rows) (grid_of (key_of feed.rows)) feed.ahead feed.last feed.at.0 items

    -- How far the files are read: where a row or the end of the rows was read and not given, no further; and else by one call of
    -- the rows.
    abbrev pub ReadsBehind : Ahead → RowFeed H g → RowFeed H g → Type 0
    ReadsBehind Nothing old new = (item : Item) × Reads files rest is_open old new item
    ReadsBehind (Row row) old new = new ≡ old
    ReadsBehind Over old new = new ≡ old
