-- What the lists of some feeds have by a moment.
use Rattle.std.specs.Prelude.{ℤ, int_le, if◌then◌else◌, List, ◌++◌, ◌∷◌, [], map, Option, Some, None, option_map}
use Rattle.std.specs.List.{filter}
use Rattle.std.specs.Option.{option_or}
use Rattle.lean_items.specs.declared.arrival.Arrival.{Arrival}
use Rattle.lean_items.specs.declared.bad.Bad.{Bad}
use Rattle.lean_items.specs.declared.feed_key.FeedKey.{FeedKey}
use Rattle.lean_items.specs.declared.item.Item.{Item}
use Rattle.lean_items.specs.declared.item.Item.TheVariants as item
use Rattle.frontier_sync.specs.Heads.{arrival}
use Rattle.frontier_sync.specs.Slices.{ends_at}
use Rattle.backtest_engine.specs.Meaning.{Subscription}

-- A malformed line is due once every row before it has ended.
abbrev pub due : ℤ → List Item → Option Bad
due t [] = None
due t (item.Bar bar ∷ items) = if int_le bar.end.0 t then due t items else None
due t (item.Coarse at row ∷ items) = if int_le at.0 t then due t items else None
due t (item.Bad bad ∷ items) = Some bad
due t (item.Faulted ∷ items) = None
due t (item.End ∷ items) = None

module _ (lists : FeedKey → List Item) where
  -- what ends at a moment in the lists of the active feeds, feed after feed
  abbrev pub slice_at : ℤ → List Subscription → List Arrival
  slice_at t [] = []
  slice_at t (f ∷ active) =
      map (arrival (record { 0 = f.feed })) (filter (ends_at t) (lists f.key)) ++ slice_at t active

  -- the first of the active feeds whose malformed line is due
  abbrev pub refused : ℤ → List Subscription → Option (FeedKey × Bad)
  refused t [] = None
  refused t (f ∷ active) =
      option_or (option_map (λ bad. (f.key, bad)) (due t (lists f.key))) (refused t active)
