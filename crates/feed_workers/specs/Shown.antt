-- What is seen of a seat. Where its turn is, is not.
use Rattle.std.specs.Prelude.{◌≡◌, ℕ, ◌+◌, ◌-◌, ◌^◌, ◌<◌, Bool, false, not, List, [], ◌∷◌, ◌++◌}
use Rattle.feed_queue.specs.Lanes.{taken_of}
use Rattle.lean_items.specs.declared.feeds.Feed.{Ghosts}
use Rattle.lean_items.specs.declared.item.Item.{Item}
use Rattle.lean_items.specs.Given.{is_last}
use Rattle.work_scheduler.specs.declared.turn.Turn.{Turn}
use Rattle.feed_workers.specs.declared.seat.Seat.{Seat}

-- the turn as it was when it was new, the items that were taken, whether more may be taken, and how many were taken
pub record Shown (T : Type 0) : Type 0 where
  pub origin : T
  pub items : List Item
  pub open_now : Bool
  pub count : ℕ

module _ {T : Type 0} where
  -- nothing more is taken
  abbrev pub shut : Shown T → Shown T
  shut seat = record { origin = seat.origin; items = seat.items; open_now = false; count = seat.count }

  -- one item was taken
  pub record TookItem (old new : Shown T) (item : Item) : Type 0 where
    pub origin : new.origin ≡ old.origin
    pub items : new.items ≡ old.items ++ item ∷ []
    pub open_now : new.open_now ≡ not (is_last item)
    pub few : old.count < 2 ^ 40 - 1
    pub count : new.count ≡ old.count + 1

module _ {G : Type 0} {feed : Ghosts G} where
  abbrev pub shown : Seat G feed → Shown (Turn G feed)
  shown seat = record { origin = seat.origin.value; items = taken_of seat.reader; open_now = seat.open; count = seat.count }
