-- Turns that come home.
use Rattle.std.specs.Prelude.{List}
use Rattle.std.specs.List.{All}
use Rattle.lean_items.specs.declared.feeds.Feed.{Ghosts}
use Rattle.work_scheduler.specs.declared.turn.Turn.{Turn}
use Rattle.work_scheduler.specs.Turns.{RanOn}

module _ {G : Type 0} {feed : Ghosts G} where
  -- a turn is another one, run on
  abbrev pub HasRun : Turn G feed → Turn G feed → Type 0
  HasRun old new = ∥ RanOn old new ∥₁

  -- a turn is each of some earlier ones, run on
  abbrev pub RanFrom : List (Turn G feed) → Turn G feed → Type 0
  RanFrom earlier turn = All (λ t. HasRun t turn) earlier
