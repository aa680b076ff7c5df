-- What the lists of all feeds have in common, and what is read off a list of items.
use Rattle.std.specs.Prelude.{◌≡◌, ℕ, ◌+◌, ◌<◌, ◌≤◌, ◌==◌, Bool, true, nat_le, nat_lt, if◌then◌else◌, ℤ, pos, ◌<ℤ◌, ◌≤ℤ◌, List, [], ◌∷◌, ◌++◌, map, filter_map, flat_map, Option, Some, None, option_map, unsigned_abs}
use Rattle.std.specs.List.{list_all, All}
use Rattle.std.specs.Option.{option_or}
use Rattle.lean_fixed.specs.Calendar.{last_day}
use Rattle.lean_items.specs.declared.bad.Bad.{Bad}
use Rattle.lean_items.specs.declared.bar.Bar.{Bar}
use Rattle.lean_items.specs.declared.coarse_row.CoarseRow.{CoarseRow}
use Rattle.lean_items.specs.declared.feed_key.FeedKind.{FeedKind}
use Rattle.lean_items.specs.declared.feed_key.FeedKind.TheVariants.{Coarse as CoarseFiles, Equity}
use Rattle.lean_items.specs.declared.item.Item.{Item}
use Rattle.lean_items.specs.declared.item.Item.TheVariants.{Bar as BarItem, Coarse as CoarseItem, Bad as BadItem, Faulted, End}
use Rattle.lean_items.specs.Fits.{is_bar_in_range, is_row_in_range}
use Rattle.lean_items.specs.Given.{IsRow}
use Rattle.clock_feeds.specs.Kept.{Kept}
use Rattle.clock_feeds.specs.Bars.{Filling, end_of, bar_at}
use Rattle.clock_feeds.specs.Feeds.{last_item, items_from}
use Rattle.clock_feeds.specs.Slices.{Source}
use Rattle.clock_feeds.specs.Stands.{EndBy}

-- a kept row ends past the start of its feed and not past the end of the window, and its numbers are in their ranges
pub record IsSound (start : ℤ) (last : ℕ) (bar : Bar) : Type 0 where
  pub end : bar.end.0 ≡ pos (end_of bar)
  pub after : start <ℤ bar.end.0
  pub until : end_of bar ≤ last
  pub in_range : is_bar_in_range bar ≡ true

-- the same of a coarse row with its end
pub record IsSoundRow (start : ℤ) (last : ℕ) (row : ℕ × CoarseRow) : Type 0 where
  pub after : start <ℤ pos row.0
  pub until : row.0 ≤ last
  pub in_range : is_row_in_range (pos row.0) row.1 ≡ true

-- coarse rows whose ends do not fall, the first from a moment on
abbrev pub RowsRise : ℕ → List (ℕ × CoarseRow) → Type 0
RowsRise after [] = Unit {0}
RowsRise after (row ∷ rows) = (after ≤ row.0) × RowsRise row.0 rows

-- a malformed line is one of a file that has the number of a day, or is the only one of its feed, which is file 0
abbrev pub StopsInFile : Option Bad → Type 0
StopsInFile None = Unit {0}
StopsInFile (Some bad) = bad.file ≤ last_day

-- the same of the malformed line among some items
abbrev pub IsInFile : Item → Type 0
IsInFile (BadItem bad) = bad.file ≤ last_day
IsInFile (BarItem bar) = Unit {0}
IsInFile (CoarseItem at row) = Unit {0}
IsInFile Faulted = Unit {0}
IsInFile End = Unit {0}

-- a feed of bars gives no coarse row, and a feed of coarse rows no bar
abbrev pub IsOfKind : FeedKind → Item → Type 0
IsOfKind CoarseFiles (BarItem bar) = ⊥
IsOfKind (Equity symbol resolution) (CoarseItem at row) = ⊥
IsOfKind CoarseFiles (CoarseItem at row) = Unit {0}
IsOfKind CoarseFiles (BadItem bad) = Unit {0}
IsOfKind CoarseFiles Faulted = Unit {0}
IsOfKind CoarseFiles End = Unit {0}
IsOfKind (Equity symbol resolution) (BarItem bar) = Unit {0}
IsOfKind (Equity symbol resolution) (BadItem bad) = Unit {0}
IsOfKind (Equity symbol resolution) Faulted = Unit {0}
IsOfKind (Equity symbol resolution) End = Unit {0}

-- rows, and behind them the malformed line or the end
pub record IsWhole (list : List Item) : Type 0 where
  pub rows : List Item
  pub stop : Option Bad
  pub is : list ≡ rows ++ last_item stop ∷ []
  pub are_rows : All IsRow rows

-- a row ends past one moment and not past another
abbrev pub EndsWithin : ℤ → ℤ → Item → Type 0
EndsWithin after until (BarItem bar) = (after <ℤ bar.end.0) × (bar.end.0 ≤ℤ until)
EndsWithin after until (CoarseItem at row) = (after <ℤ at.0) × (at.0 ≤ℤ until)
EndsWithin after until (BadItem bad) = Unit {0}
EndsWithin after until Faulted = Unit {0}
EndsWithin after until End = Unit {0}

-- the next bar from a moment on: there is none before its end, and then the list goes on past it
pub record IsNextBar (f : Filling) (kept : Kept Bar) (from : ℕ) (bar : Bar) : Type 0 where
  pub is : items_from f kept from ≡ BarItem bar ∷ items_from f kept (end_of bar + 1)
  pub ends : bar_at f kept (end_of bar) ≡ Some bar
  pub since : from ≤ end_of bar
  pub until : end_of bar ≤ f.last
  pub none : (t : ℕ) → from ≤ t → t < end_of bar → bar_at f kept t ≡ None

-- from a moment on there is no bar up to the end of the window
pub record IsAtEnd (f : Filling) (kept : Kept Bar) (from : ℕ) : Type 0 where
  pub is : items_from f kept from ≡ last_item kept.stop ∷ []
  pub none : (t : ℕ) → from ≤ t → t ≤ f.last → bar_at f kept t ≡ None

-- the bar that an item is, where it ends at a moment
abbrev pub bar_ending : ℕ → Item → Option Bar
bar_ending t (BarItem bar) = if end_of bar == t then Some bar else None
bar_ending t (CoarseItem at row) = None
bar_ending t (BadItem bad) = None
bar_ending t Faulted = None
bar_ending t End = None

abbrev pub bars_ending : ℕ → List Item → List Bar
bars_ending t items = filter_map (bar_ending t) items

-- the coarse row that an item is, where it is known from a moment on
abbrev pub row_ending : ℕ → Item → Option CoarseRow
row_ending t (BarItem bar) = None
row_ending t (CoarseItem at row) = if unsigned_abs at.0 == t then Some row else None
row_ending t (BadItem bad) = None
row_ending t Faulted = None
row_ending t End = None

abbrev pub rows_ending : ℕ → List Item → List CoarseRow
rows_ending t items = filter_map (row_ending t) items

-- an item is no row that ends past a moment
abbrev pub is_by : ℕ → Item → Bool
is_by t (BarItem bar) = nat_le (end_of bar) t
is_by t (CoarseItem at row) = nat_le (unsigned_abs at.0) t
is_by t (BadItem bad) = true
is_by t Faulted = true
is_by t End = true

-- an item is no bar that ends at a moment or past it
abbrev pub is_before : ℕ → Item → Bool
is_before t (BarItem bar) = nat_lt (end_of bar) t
is_before t (CoarseItem at row) = true
is_before t (BadItem bad) = true
is_before t Faulted = true
is_before t End = true

-- the malformed line of a list
abbrev pub stop_in : List Item → Option Bad
stop_in [] = None
stop_in (BadItem bad ∷ items) = Some bad
stop_in (BarItem bar ∷ items) = stop_in items
stop_in (CoarseItem at row ∷ items) = stop_in items
stop_in (Faulted ∷ items) = stop_in items
stop_in (End ∷ items) = stop_in items

-- the malformed line of a list, once all its rows have ended by a moment
abbrev pub blocked_in : List Item → ℕ → Option Bad
blocked_in items t = if list_all (is_by t) items then stop_in items else None

module _ {N : Type 0} where
  -- the list of a named source
  abbrev pub list_of : N × Source → N × List Item
  list_of (name, s) = (name, items_from s.filling s.kept 0)

  -- the slice of a moment, and the malformed line that is due then, over lists
  abbrev pub bars_in : ℕ → N × List Item → List (N × Bar)
  bars_in t (name, items) = map (λ bar. (name, bar)) (bars_ending t items)

  abbrev pub slice_in : List (N × List Item) → ℕ → List (N × Bar)
  slice_in lists t = flat_map (bars_in t) lists

  abbrev pub bad_in : ℕ → N × List Item → Option (N × Bad)
  bad_in t (name, items) = option_map (λ bad. (name, bad)) (blocked_in items t)

  abbrev pub refused_in : List (N × List Item) → ℕ → Option (N × Bad)
  refused_in [] t = None
  refused_in (list ∷ lists) t = option_or (bad_in t list) (refused_in lists t)

  -- the kept rows of each source end by the end of its window
  abbrev pub EndInWindows : List (N × Source) → Type 0
  EndInWindows [] = Unit {0}
  EndInWindows (s ∷ sources) = EndBy s.1.filling.last s.1.kept.rows × EndInWindows sources
