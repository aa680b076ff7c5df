-- Some turns, each with the number of its feed, and what stays true of them while they are pumped.
use Rattle.std.specs.Prelude.{◌≡◌, ℕ, ◌<◌, ◌==◌, ◌⊎◌, true, List, [], ◌++◌, length, map, slice_index_or, slice_set}
use Rattle.std.specs.List.{filter}
use Rattle.feed_queue.specs.Lanes.{WasFull}
use Rattle.lean_items.specs.declared.feeds.Feed.{Ghosts}
use Rattle.lean_items.specs.declared.item.Item.{Item}
use Rattle.work_scheduler.specs.declared.placing.Placing.{Placing}
use Rattle.work_scheduler.specs.declared.turning.Pumped.{Pumped}
use Rattle.work_scheduler.specs.Turns.{sent_of, room_of_lane, is_done, RanOn}

-- of some lists of sent items the one at a place grew by so many items
abbrev pub GrewAt : ℕ → ℕ → List (List Item) → List (List Item) → Type 0
GrewAt place n old new = (items : List Item) × (length items ≡ n) × (new ≡ slice_set old place (slice_index_or old place [] ++ items))

module _ {G : Type 0} {feed : Ghosts G} where
  -- the turns of a feed
  abbrev pub numbered : ℕ → List (Placing G feed) → List (Placing G feed)
  numbered k turns = filter (λ p. p.feed.0 == k) turns

  -- what each turn has sent
  abbrev pub all_sent : List (Placing G feed) → List (List Item)
  all_sent turns = map (λ p. sent_of p.turn) turns

  -- the turn of the same feed, which went on
  abbrev pub PlacedOn : Placing G feed → Placing G feed → Type 0
  PlacedOn old new = (new.feed ≡ old.feed) × RanOn old.turn new.turn

  -- its last item was sent, or its lane was full at a moment of the call
  abbrev pub IsStuck : Placing G feed → Type 0
  IsStuck p = (is_done p.turn ≡ true) ⊎ WasFull (room_of_lane p.turn) (sent_of p.turn)

  -- one turn was pumped: it sent so many items, and no other sent any
  abbrev pub OnePumped : Pumped → List (Placing G feed) → List (Placing G feed) → Type 0
  OnePumped pumped old new = (place : ℕ) × (place < length old) × GrewAt place pumped.sent (all_sent old) (all_sent new)
