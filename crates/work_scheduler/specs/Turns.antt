-- What is seen of a turn, and what stays true of it while it is pumped.
use Rattle.std.specs.Prelude.{◌≡◌, ℕ, ◌≤◌, Bool, ◌&&◌, List, ◌++◌, length, Option}
use Rattle.atomic_table.specs.Seated.{TableId}
use Rattle.feed_queue.specs.Lanes.{sent_of as sent_by, lane_of, capacity_of}
use Rattle.lean_items.specs.declared.feeds.Feed.{Ghosts}
use Rattle.lean_items.specs.declared.item.Item.{Item}
use Rattle.work_scheduler.specs.declared.turn.Turn.{Turn}
use Rattle.work_scheduler.specs.Served.{held_items, holds_none, IsServed}

-- some items more were sent
abbrev pub SentMore : ℕ → List Item → List Item → Type 0
SentMore n old new = (items : List Item) × (length items ≡ n) × (new ≡ old ++ items)

module _ {G : Type 0} {feed : Ghosts G} where
  abbrev pub feed_of : Turn G feed → G
  feed_of turn = turn.feed

  -- the items that were sent, in order
  abbrev pub sent_of : Turn G feed → List Item
  sent_of turn = sent_by turn.out

  -- and then the item in hand
  abbrev pub given_of : Turn G feed → List Item
  given_of turn = sent_by turn.out ++ held_items turn.held

  -- which lane it sends into
  abbrev pub turn_lane : Turn G feed → TableId
  turn_lane turn = lane_of turn.out

  abbrev pub room_of_lane : Turn G feed → ℕ
  room_of_lane turn = capacity_of turn.out

  -- the feed's last item was sent
  abbrev pub is_done : Turn G feed → Bool
  is_done turn = turn.over && holds_none turn.held

  -- what was sent, and then the item in hand, is what the feed gave since its count of faults was so
  abbrev pub Stands : Option (List Item) → ℕ → Turn G feed → Type 0
  Stands told before turn = IsServed feed.leaves feed.has_ended feed.faults told before turn.feed (given_of turn)

  -- a turn went on: into the same lane, and what stood still stands
  pub record RanOn (old new : Turn G feed) : Type 0 where
    pub lane : turn_lane new ≡ turn_lane old
    pub capacity : room_of_lane new ≡ room_of_lane old
    pub grows : feed.faults old.feed ≤ feed.faults new.feed
    pub stands : (told : Option (List Item)) (before : ℕ) → Stands told before old → Stands told before new
