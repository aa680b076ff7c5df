-- What was taken of a feed tells of a moment, and when it is enough: no more that the feed has to give can matter then.
use Rattle.std.specs.Prelude.{ℕ, Bool, true, false, int_lt, int_le, ◌||◌, ℤ, pos, List, [], ◌∷◌}
use Rattle.std.specs.List.{list_any}
use Rattle.lean_items.specs.declared.bar.Bar.{Bar}
use Rattle.lean_items.specs.declared.feed_key.FeedKind.{FeedKind}
use Rattle.lean_items.specs.declared.feed_key.FeedKind.TheVariants.{Coarse as CoarseFiles, Equity}
use Rattle.lean_items.specs.declared.item.Item.{Item}
use Rattle.lean_items.specs.declared.item.Item.TheVariants.{Bar as BarItem, Coarse as CoarseItem, Bad as BadItem, Faulted, End}
use Rattle.clock_steps.specs.Walks.{walk}
use Rattle.clock_feeds.specs.Lists.{bars_ending}

-- the bars among some items up to a moment, minute by minute
unfoldable pub bars_taken : List Item → ℕ → List Bar
bars_taken items t = walk (λ u. bars_ending u items) 0 t

-- a row that ends past a moment, the malformed line or the end
abbrev pub is_past : ℕ → Item → Bool
is_past t (BarItem bar) = int_lt (pos t) bar.end.0
is_past t (CoarseItem at row) = int_lt (pos t) at.0
is_past t (BadItem bad) = true
is_past t Faulted = false
is_past t End = true

-- a read failed behind a bar that does not end before a moment, or behind such a start where there is no bar
abbrev pub fails_past : ℕ → ℤ → List Item → Bool
fails_past t after [] = false
fails_past t after (BarItem bar ∷ items) = fails_past t bar.end.0 items
fails_past t after (CoarseItem at row ∷ items) = fails_past t at.0 items
fails_past t after (BadItem bad ∷ items) = fails_past t after items
fails_past t after (Faulted ∷ items) = int_le (pos t) after
fails_past t after (End ∷ items) = fails_past t after items

-- Of rows of the coarse universe more than one may end at a moment, so a failed read tells nothing of it.
abbrev pub reaches : FeedKind → ℤ → ℕ → List Item → Bool
reaches CoarseFiles start t items = list_any (is_past t) items
reaches (Equity symbol resolution) start t items = list_any (is_past t) items || fails_past t start items
