-- What a pool keeps of a feed that is read by workers.
use Rattle.std.specs.Prelude.{◌≡◌, ℕ, List, Option, Some, None}
use Rattle.std.specs.List.{Contains}
use Rattle.lean_fixed.specs.Counts.{Rose}
use Rattle.lean_items.specs.declared.feeds.Feed.{Ghosts}
use Rattle.lean_items.specs.declared.item.Item.{Item}
use Rattle.lean_items.specs.declared.item.Item.TheVariants.{Faulted}
use Rattle.lean_items.specs.Taken.{Follows}
use Rattle.work_scheduler.specs.declared.turn.Turn.{Turn}
use Rattle.work_scheduler.specs.Turns.{Stands}
use Rattle.feed_workers.specs.declared.spot.Spot.{Spot}
use Rattle.feed_workers.specs.Homes.{HasRun}
use Rattle.feed_workers.specs.declared.spot.Spot.TheVariants.{Ready, Home, Out}

module _ {G : Type 0} {feed : Ghosts G} where
  -- the turn that is here
  abbrev pub turn_at : Spot G feed → Option (Turn G feed)
  turn_at (Ready away) = Some away.turn
  turn_at (Home turn) = Some turn
  turn_at Out = None

  -- a turn that is here is the one that was new, run on
  abbrev pub IsHere : Turn G feed → Spot G feed → Type 0
  IsHere origin spot = (turn : Turn G feed) → turn_at spot ≡ Some turn → HasRun origin turn

  -- A feed whose turn was new, and of whose lane these items were taken, is there no more: what was taken follows the list of the
  -- turn, and a failed read was taken only where the count of the feed's hand rose.
  abbrev pub Unseated : Turn G feed → List Item → G → Type 0
  Unseated origin taken left = (told : Option (List Item)) (before : ℕ) → Stands told before origin
      → ((list : List Item) → told ≡ Some list → Follows list taken) × (Contains taken Faulted → Rose before (feed.faults left))
