-- What becomes of a row by its end: it is kept, passed over, or past the end of the window.
use Rattle.std.specs.Prelude.{◌≡◌, ℕ, ◌≤◌, ◌<ℤ◌, Bool, ◌&&◌, nat_lt, int_lt, if◌then◌else◌, ℤ, pos, Option, Some, None}
use Rattle.lean_items.specs.declared.coarse_row.CoarseRow.{CoarseRow}
use Rattle.lean_items.specs.declared.item.Item.{Item}
use Rattle.lean_items.specs.declared.item.Item.TheVariants.{Bar as BarItem, Coarse as CoarseItem, End}
use Rattle.equity_csv.specs.declared.row.Row.{Row}
use Rattle.exchange_hours.specs.Sessions.{moment}
use Rattle.clock_feeds.specs.Kept.{bar_of}
use Rattle.lean_fixed.specs.declared.resolution.Resolution.{Resolution}
use Rattle.exchange_hours.specs.Sessions.{Interval}
use Rattle.row_feed.specs.Spans.{end_by, meets_by}
use Rattle.row_feed.specs.declared.judged.Judged.{Judged}
use Rattle.row_feed.specs.declared.judged.Judged.TheVariants.{Kept, PassedOver, PastWindow}

-- of a feed that starts at a moment, in a window with a last one; `fits` says whether a row that ends at a moment is in session
abbrev pub judged : ℤ → ℕ → (ℕ → Bool) → Option ℕ → Judged
judged start last fits None = PassedOver
judged start last fits (Some end) =
    if nat_lt last end then PastWindow
    else if int_lt start (pos end) && fits end then Kept end else PassedOver

-- the same of the bar of a start, by its session
abbrev pub judged_bar : ℤ → ℕ → Resolution → ℕ → Option Interval → Judged
judged_bar after last resolution start session =
    judged after last (λ end. meets_by start end session) (end_by resolution start session)

-- a kept row ends past the start of the feed, and by the last moment
abbrev pub KeptWithin : ℤ → ℕ → Option ℕ → Judged → Type 0
KeptWithin start last end (Kept t) = (end ≡ Some t) × (start <ℤ pos t) × (t ≤ last)
KeptWithin start last end PassedOver = Unit {0}
KeptWithin start last end PastWindow = Unit {0}

-- what is given for a row, where anything is
abbrev pub bar_given : Row → Judged → Option Item
bar_given row (Kept end) = Some (BarItem (bar_of row end))
bar_given row PassedOver = None
bar_given row PastWindow = Some End

abbrev pub coarse_given : CoarseRow → Judged → Option Item
coarse_given row (Kept end) = Some (CoarseItem (moment end) row)
coarse_given row PassedOver = None
coarse_given row PastWindow = Some End
