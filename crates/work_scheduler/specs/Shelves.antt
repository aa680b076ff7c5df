-- What is seen of a shelf.
use Rattle.std.specs.Prelude.{ℕ, List}
use Rattle.lean_items.specs.declared.feeds.Feed.{Ghosts}
use Rattle.work_scheduler.specs.declared.placing.Placing.{Placing}
use Rattle.work_scheduler.specs.declared.shelf.Shelf.{Shelf}

module _ {G : Type 0} {feed : Ghosts G} where
  -- the turns that stand on it
  abbrev pub on_shelf : Shelf G feed → List (Placing G feed)
  on_shelf shelf = shelf.turns.items

  -- how many turns may stand on it
  abbrev pub places_of : Shelf G feed → ℕ
  places_of shelf = shelf.capacity
