-- A feed of rows: what it was made with, and the items that it has left to give.
use Rattle.std.specs.Prelude.{◌≡◌, ◌≤◌, ℕ, ℤ, Bool, true, List, Option, Some}
use Rattle.lean_fixed.specs.Moments.{last_moment}
use Rattle.lean_fixed.specs.declared.time.Window.{Window}
use Rattle.lean_io.specs.Told.{Files}
use Rattle.lean_io.specs.declared.outside.Hand.{Ghosts}
use Rattle.lean_items.specs.declared.feed_key.FeedKey.{FeedKey}
use Rattle.lean_items.specs.declared.item.Item.{Item}
use Rattle.exchange_hours.specs.Entries.{Entries}
use Rattle.row_feed.specs.declared.feed.RowFeed.{RowFeed}
use Rattle.row_feed.specs.Reach.{room}
use Rattle.row_feed.specs.Reader as reader
use Rattle.row_feed.specs.Course.{hours_of as course_hours, files_room, CourseLeaves}
use Rattle.row_feed.specs.Steps.{StepIsOfKind, StepWithin, StepIsShorter, at_after, step_fits}
pub use Rattle.row_feed.specs.Steps.{IsOfKind}

module _ {H : Type 0} {g : Ghosts H} where
  abbrev pub hand_of : RowFeed H g → H
  hand_of feed = reader.hand_of feed.reader

  abbrev pub key_of : RowFeed H g → FeedKey
  key_of feed = feed.course.key

  abbrev pub window_of : RowFeed H g → Window
  window_of feed = feed.course.window

  abbrev pub hours_of : RowFeed H g → Entries
  hours_of feed = course_hours feed.course

  abbrev pub is_open : RowFeed H g → Bool
  is_open feed = reader.is_open feed.reader

  -- whether the last item was given
  abbrev pub has_ended : RowFeed H g → Bool
  has_ended feed = feed.ended

  -- the end of the last row that was given, or at first the start of the key
  abbrev pub at_of : RowFeed H g → ℤ
  at_of feed = feed.course.at.0

  -- more rows than this are not left
  abbrev pub room_of : RowFeed H g → ℕ
  room_of feed = room (files_room feed.course) (reader.room_of feed.reader)

  -- The hand tells its files, and these items are left to give.
  pub record Leaves (files : H → Option Files) (rest : H → List ℕ) (is_open : H → Bool) (feed : RowFeed H g) (list : List Item) : Type 0 where
    pub f : Files
    pub told : files (hand_of feed) ≡ Some f
    pub left : CourseLeaves f feed.course feed.reader.opened (reader.lines_left rest feed.reader) list

  -- a call keeps what the feed was made with
  pub record Keeps (old new : RowFeed H g) : Type 0 where
    pub key : key_of new ≡ key_of old
    pub window : window_of new ≡ window_of old
    pub hours : hours_of new ≡ hours_of old

  -- What a step does, whatever it gives, where the hand tells these files and has met so many faults: a row ends past the one
  -- before it and within the window, has its numbers in their ranges and is of the feed's kind; less room is left; the hand
  -- tells the files that it told, and forgets no fault; and the feed keeps what it was made with.
  pub record Goes (told : H → Option Files) (faults : H → ℕ) (old new : RowFeed H g) (result : Option Item) : Type 0 where
    pub fits : step_fits (at_of old) result ≡ true
    pub at : at_of new ≡ at_after (at_of old) result
    pub within : StepWithin (last_moment (window_of old)) result
    pub kind : StepIsOfKind (key_of old).kind result
    pub fewer : StepIsShorter (room_of old) (room_of new) result
    pub grows : faults (hand_of old) ≤ faults (hand_of new)
    pub files : told (hand_of new) ≡ told (hand_of old)
    pub kept : Keeps old new
