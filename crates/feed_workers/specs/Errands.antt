-- How many turns the errands to a worker brought and let go.
use Rattle.std.specs.Prelude.{ℕ, ◌+◌, ◌≤◌, List, [], ◌∷◌, Option, Some, None}
use Rattle.feed_workers.specs.declared.away.Away.{Away}
use Rattle.lean_items.specs.declared.feeds.Feed.{Ghosts}
use Rattle.feed_workers.specs.declared.errand.Errand.{Errand}
use Rattle.feed_workers.specs.declared.errand.Errand.TheVariants.{Take, Leave}

module _ {G : Type 0} {feed : Ghosts G} where
  -- the turn that an errand brings
  abbrev pub brought : Errand G feed → Option (Away G feed)
  brought (Take number away) = Some away
  brought (Leave number) = None

  -- how many turns came by some errands
  abbrev pub takes : List (Errand G feed) → ℕ
  takes [] = 0
  takes (Take number away ∷ errands) = takes errands + 1
  takes (Leave number ∷ errands) = takes errands

  -- how many turns were to leave by some errands
  abbrev pub leaves : List (Errand G feed) → ℕ
  leaves [] = 0
  leaves (Take number away ∷ errands) = leaves errands
  leaves (Leave number ∷ errands) = leaves errands + 1

  -- of the turns that came by some errands so many are there, or went home: none is lost
  abbrev pub IsNoneLost : List (Errand G feed) → ℕ → Type 0
  IsNoneLost errands there = takes errands ≤ there + leaves errands
