-- Which item may come behind another in the list of a feed: its numbers are in their ranges, and the ends of bars rise, while
-- those of coarse rows do not fall.
use Rattle.std.specs.Prelude.{◌≡◌, ℤ, int_lt, int_le, Bool, true, ◌&&◌, List, [], ◌∷◌}
pub use Rattle.lean_fixed.specs.Ranges.{is_within, is_moment, is_price, is_volume}
use Rattle.lean_items.specs.declared.bar.Bar.{Bar}
use Rattle.lean_items.specs.declared.coarse_row.CoarseRow.{CoarseRow}
use Rattle.lean_items.specs.declared.item.Item.{Item}
use Rattle.lean_items.specs.declared.item.Item.TheVariants.{Bar as BarItem, Coarse as CoarseItem, Bad, Faulted, End}
use Rattle.lean_items.specs.Coarse.{is_close, is_dollars}

-- the numbers of a bar are in their ranges
unfoldable pub is_bar_in_range : Bar → Bool
is_bar_in_range bar =
    is_moment bar.start.0 && is_moment bar.end.0
    && is_price bar.opening.0 && is_price bar.high.0 && is_price bar.low.0 && is_price bar.closing.0
    && is_volume bar.volume.0

-- the numbers of a coarse row and of its moment are in their ranges
unfoldable pub is_row_in_range : ℤ → CoarseRow → Bool
is_row_in_range at row =
    is_moment at && is_close row.close.0 && is_volume row.volume.0 && is_dollars row.dollars

-- an item may come behind one that ends at a moment
abbrev pub fits : ℤ → Item → Bool
fits after (BarItem bar) = int_lt after bar.end.0 && is_bar_in_range bar
fits after (CoarseItem at row) = int_le after at.0 && is_row_in_range at.0 row
fits after (Bad bad) = true
fits after Faulted = true
fits after End = true

-- where a row ends, and of a last item the moment before it
abbrev pub end_or : ℤ → Item → ℤ
end_or after (BarItem bar) = bar.end.0
end_or after (CoarseItem at row) = at.0
end_or after (Bad bad) = after
end_or after Faulted = after
end_or after End = after

-- each item may come behind the one before it, and the first behind a moment
abbrev pub Rises : ℤ → List Item → Type 0
Rises after [] = Unit {0}
Rises after (item ∷ items) = (fits after item ≡ true) × Rises (end_or after item) items
