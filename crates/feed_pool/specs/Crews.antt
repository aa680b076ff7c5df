-- What is kept of the feeds that workers read, and what it has to do with what was taken of them.
use Rattle.std.specs.Prelude.{◌≡◌, ℕ, ◌+◌, ◌-◌, ◌^◌, ◌<◌, ◌≤◌, Bool, false, true, List, Option, Some, None, option_map, map, length, slice_index_or, slice_set, MatchOption}
use Rattle.lean_items.specs.declared.feeds.Feed.{Ghosts}
use Rattle.lean_items.specs.declared.feed_key.FeedKey.{FeedKey}
use Rattle.lean_items.specs.declared.item.Item.{Item}
use Rattle.lean_items.specs.Taken.{Start, Taken, Feeds}
use Rattle.work_scheduler.specs.declared.turn.Turn.{Turn}
use Rattle.work_scheduler.specs.Turns.{Stands}
use Rattle.feed_workers.specs.declared.seat.Seat.{Seat}
use Rattle.feed_workers.specs.Seats.{Unseated}
use Rattle.feed_workers.specs.Shown.{Shown, TookItem, shown, shut}
use Rattle.feed_pool.specs.Each.{AtEach}
use Rattle.feed_pool.specs.Running.{IsSettled, held}
use native.Mathlib.Omega.{arith}

-- the list of a key, where it is told
abbrev pub told_of : Option (FeedKey → List Item) → FeedKey → Option (List Item)
told_of lists key = option_map (λ l. l key) lists

module _ {T : Type 0} where
  abbrev pub is_open_seat : Option (Shown T) → Bool
  is_open_seat None = false
  is_open_seat (Some seat) = seat.open_now

  -- a feed of this number is there, and its last item was not taken
  abbrev pub is_open_in : List (Option (Shown T)) → ℕ → Bool
  is_open_in seats n = is_open_seat (slice_index_or seats n None)

  -- no more rows than this can be taken of a feed
  abbrev pub room_of_seat : Option (Shown T) → ℕ
  room_of_seat None = 0
  room_of_seat (Some seat) = 2 ^ 40 - 1 - seat.count

  abbrev pub room_in : List (Option (Shown T)) → ℕ → ℕ
  room_in seats n = room_of_seat (slice_index_or seats n None)

  pub room-of_seat_few : (seat : Option (Shown T)) → room_of_seat seat < 2 ^ 40
  room-of_seat_few None = omega arith
  room-of_seat_few (Some seat) = omega arith

  -- one item was taken of a seat that is there
  pub record Took (old new : Option (Shown T)) (item : Item) : Type 0 where
    pub was : Shown T
    pub is : Shown T
    pub there : old ≡ Some was
    pub still : new ≡ Some is
    pub took : TookItem was is item

  -- nothing more is taken of the feed of a number
  abbrev pub shut_in : List (Option (Shown T)) → ℕ → List (Option (Shown T))
  shut_in seats n = slice_set seats n (option_map shut (slice_index_or seats n None))

module _ {G : Type 0} {feed : Ghosts G} where
  abbrev pub show : Option (Seat G feed) → Option (Shown (Turn G feed))
  show seat = option_map shown seat

  abbrev pub show_all : List (Option (Seat G feed)) → List (Option (Shown (Turn G feed)))
  show_all seats = map show seats

  -- of a seat that was shut the feed was let go
  pub record IsLeft (old new : Option (Shown (Turn G feed))) (left : G) : Type 0 where
    pub was : Shown (Turn G feed)
    pub there : old ≡ Some was
    pub closed : was.open_now ≡ false
    pub settled : Unseated was.origin was.items left
    pub gone : new ≡ None

  -- of one of some seats, or of none
  pub record IsGone (old new : List (Option (Shown (Turn G feed)))) (left : G) : Type 0 where
    pub place : ℕ
    pub within : place < length old
    pub seat : Option (Shown (Turn G feed))
    pub leaves : IsLeft (slice_index_or old place None) seat left
    pub now : new ≡ slice_set old place seat

  abbrev pub Collected : List (Option (Shown (Turn G feed))) → List (Option (Shown (Turn G feed))) → Option G → Type 0
  Collected old new result = MatchOption result (new ≡ old) (λ left. IsGone old new left)

  -- a feed is there: of its lane was taken what was taken, and its turn was made over the list of its key
  pub record IsSeated (lists : Option (FeedKey → List Item)) (seat : Shown (Turn G feed)) (taken : Taken) : Type 0 where
    pub items : taken.items ≡ seat.items
    pub stands : Stands (told_of lists taken.key) 0 seat.origin

  abbrev pub Standing : Option (FeedKey → List Item) → ℕ → ℕ → Option (Shown (Turn G feed)) → Taken → Type 0
  Standing lists before now None taken = IsSettled lists before now taken
  Standing lists before now (Some seat) taken = IsSeated lists seat taken

  -- what was taken of the feeds of a pool, since the folder's counts were so; the hands that are out beyond those at the start are
  -- those of the feeds that are there
  pub record Manned (lists : Option (FeedKey → List Item)) (start now : Start) (seats : List (Option (Shown (Turn G feed)))) (taken : Feeds) : Type 0 where
    pub since : start.faults ≤ now.faults
    pub each : AtEach (Standing lists start.faults now.faults) seats taken
    pub hands : now.hands ≡ start.hands + held seats
