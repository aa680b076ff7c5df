-- The rows that a feed may give: those before the first malformed line or the first row that ends past the window, in session
-- and past the feed's start.
use Rattle.std.specs.Prelude.{ℕ, Bool, true, false, ◌&&◌, nat_lt, int_lt, if◌then◌else◌, ℤ, pos, List, [], ◌∷◌, filter_map, Option, Some, None, Result, Ok, Err}
use Rattle.lean_items.specs.declared.bad.Bad.{Bad}
use Rattle.lean_items.specs.declared.bar.Bar.{Bar}
use Rattle.lean_items.specs.declared.coarse_row.CoarseRow.{CoarseRow}
use Rattle.lean_items.specs.declared.reason.Reason.{Reason}
use Rattle.equity_csv.specs.declared.row.Row.{Row}
use Rattle.exchange_hours.specs.Entries.{Entries}
use Rattle.exchange_hours.specs.Grid.{in_session}
use Rattle.exchange_hours.specs.Sessions.{moment}
use Rattle.clock_feeds.specs.Raw.{Timed, Raw, start_of}

-- rows, and the malformed line at which they end, where they end at one
pub record Kept (X : Type 0) : Type 0 where
  pub rows : List X
  pub stop : Option Bad

abbrev pub is_past : ℕ → Option ℕ → Bool
is_past last None = false
is_past last (Some end) = nat_lt last end

module _ {X : Type 0} where
  abbrev pub cut_at : ℕ → ℕ → ℕ → Result (Timed X) Reason → Kept (Timed X) → Kept (Timed X)
  cut_at last file line (Err reason) later = record { rows = []; stop = Some (record { file = file; line = line; reason = reason }) }
  cut_at last file line (Ok timed) later =
      if is_past last timed.end then record { rows = []; stop = None }
      else record { rows = timed ∷ later.rows; stop = later.stop }

  -- all that stands before the first entry that is malformed or ends past the last moment
  abbrev pub cut : ℕ → List (Raw X) → Kept (Timed X)
  cut last [] = record { rows = []; stop = None }
  cut last (entry ∷ more) = cut_at last entry.file entry.line entry.says (cut last more)

-- the bar of a row that ends at a moment
abbrev pub bar_of : Row → ℕ → Bar
bar_of row end = record {
  start = row.start;
  end = moment end;
  opening = row.opening;
  high = row.high;
  low = row.low;
  closing = row.closing;
  volume = row.volume;
  real = true;
}

-- a row is kept where it ends past the start of the feed and its bar is in session
abbrev pub kept_bar_at : Entries → ℤ → Row → Option ℕ → Option Bar
kept_bar_at hours start row None = None
kept_bar_at hours start row (Some end) =
    if int_lt start (pos end) && in_session hours (start_of row) end then Some (bar_of row end) else None

abbrev pub kept_bar : Entries → ℤ → Timed Row → Option Bar
kept_bar hours start timed = kept_bar_at hours start timed.row timed.end

abbrev pub kept_bars : Entries → ℤ → ℕ → List (Raw Row) → Kept Bar
kept_bars hours start last raw =
    let all = cut last raw in
    record { rows = filter_map (kept_bar hours start) all.rows; stop = all.stop }

-- a coarse row that ends past the start of the feed, with its end
abbrev pub kept_coarse_at : ℤ → CoarseRow → Option ℕ → Option (ℕ × CoarseRow)
kept_coarse_at start row None = None
kept_coarse_at start row (Some end) = if int_lt start (pos end) then Some (end, row) else None

abbrev pub kept_coarse_row : ℤ → Timed CoarseRow → Option (ℕ × CoarseRow)
kept_coarse_row start timed = kept_coarse_at start timed.row timed.end

abbrev pub kept_coarse : ℤ → ℕ → List (Raw CoarseRow) → Kept (ℕ × CoarseRow)
kept_coarse start last raw =
    let all = cut last raw in
    record { rows = filter_map (kept_coarse_row start) all.rows; stop = all.stop }
