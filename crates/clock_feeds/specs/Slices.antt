-- What ends at a moment, over some feeds: their bars, the malformed line that is due, and the rows of the coarse universe.
use Rattle.std.specs.Prelude.{ℕ, ◌==◌, List, [], ◌∷◌, map, filter, flat_map, Option, None, option_map}
use Rattle.std.specs.Option.{option_or, option_to_list}
use Rattle.lean_fixed.specs.declared.resolution.Resolution.{Resolution}
use Rattle.lean_fixed.specs.declared.time.Window.{Window}
use Rattle.lean_io.specs.Told.{Files}
use Rattle.lean_items.specs.declared.bad.Bad.{Bad}
use Rattle.lean_items.specs.declared.bar.Bar.{Bar}
use Rattle.lean_items.specs.declared.coarse_row.CoarseRow.{CoarseRow}
use Rattle.lean_items.specs.declared.feed_key.FeedKey.{FeedKey}
use Rattle.exchange_hours.specs.Entries.{Entries}
use Rattle.clock_feeds.specs.Kept.{Kept}
use Rattle.clock_feeds.specs.Bars.{Filling, bar_at, blocked}
use Rattle.clock_feeds.specs.Feeds.{bars_of, filling_of}

-- what the files of a security's feed say: what is filled, and the kept rows
pub record Source : Type 0 where
  pub filling : Filling
  pub kept : Kept Bar

abbrev pub source : Files → Entries → Window → FeedKey → List ℕ → Resolution → Source
source files hours window key symbol resolution =
    record { filling = filling_of hours window key resolution; kept = bars_of files hours window key symbol resolution }

-- the sources are named, by the numbers of their feeds or by their symbols
module _ {N : Type 0} where
  abbrev pub bars_at : ℕ → N × Source → List (N × Bar)
  bars_at t (name, s) = option_to_list (option_map (λ bar. (name, bar)) (bar_at s.filling s.kept t))

  -- the bars that end at a moment, in the order of the sources
  abbrev pub slice : List (N × Source) → ℕ → List (N × Bar)
  slice sources t = flat_map (bars_at t) sources

  abbrev pub blocked_at : ℕ → N × Source → Option (N × Bad)
  blocked_at t (name, s) = option_map (λ bad. (name, bad)) (blocked s.kept t)

  -- the malformed line of the first source that ends with one by this moment
  abbrev pub refused : List (N × Source) → ℕ → Option (N × Bad)
  refused [] t = None
  refused (s ∷ sources) t = option_or (blocked_at t s) (refused sources t)

-- the rows of the coarse universe that are known from this moment on, in the order of their file
abbrev pub coarse_at : Kept (ℕ × CoarseRow) → ℕ → List CoarseRow
coarse_at kept t = map (λ row. row.1) (filter (λ row. row.0 == t) kept.rows)
