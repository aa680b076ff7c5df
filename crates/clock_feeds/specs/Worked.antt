-- The hours, folders and keys on which worked values are computed. 1970-01-01 was a Thursday, so day 1 is a Friday, and day 3
-- a Sunday.
use Rattle.std.specs.Prelude.{ℕ, pos, true, false, List, [], ◌∷◌, ◌++◌, codes, ◌-◌, map, flat_map, if◌then◌else◌, Option, Some, None}
use Rattle.std.specs.Str.{bytes_eq}
use Rattle.lean_fixed.specs.declared.resolution.Resolution.{Resolution}
use Rattle.lean_fixed.specs.declared.resolution.Resolution.TheVariants.{Hour}
use Rattle.lean_fixed.specs.declared.time.Window.{Window}
use Rattle.lean_io.specs.Told.{Files}
use Rattle.lean_items.specs.declared.bad.Bad.{Bad}
use Rattle.lean_items.specs.declared.bar.Bar.{Bar}
use Rattle.lean_items.specs.declared.feed_key.FeedKey.{FeedKey}
use Rattle.lean_items.specs.declared.feed_key.FeedKind.TheVariants.{Coarse, Equity}
use Rattle.lean_items.specs.declared.reason.Reason.TheVariants.{Fields}
use Rattle.exchange_hours.specs.declared.entries.Segment.{Segment}
use Rattle.exchange_hours.specs.Entries.{Entries}
use Rattle.exchange_hours.specs.Sessions.{moment}
use Rattle.clock_feeds.specs.Kept.{Kept}
use Rattle.clock_feeds.specs.Bars.{Filling, end_of}
use Rattle.clock_feeds.specs.Slices.{Source}

-- a part of a weekday in which the exchange is open
abbrev pub open_on : ℕ → ℕ → ℕ → Segment
open_on weekday start end = record { weekday = weekday; is_market = true; start = start; end = end }

-- from 09:30 to 16:00 on Thursday, Friday and Tuesday, and on Monday, 1970-01-05, which is a holiday
abbrev pub usual_hours : Entries
usual_hours = record {
  segments = map (λ weekday. open_on weekday 570 960) (1 ∷ 2 ∷ 4 ∷ 5 ∷ []);
  holidays = 4 ∷ [];
  early_closes = [];
}

-- from 18:00 to 24:00 on Sunday, and from 00:00 on Monday
abbrev pub night_hours : Entries
night_hours = record { segments = open_on 0 1080 1440 ∷ open_on 1 0 960 ∷ []; holidays = []; early_closes = [] }

abbrev pub days : ℕ → ℕ → Window
days first last = record { first = record { 0 = pos first }; last = record { 0 = pos last } }

abbrev pub spider : Resolution → ℕ → FeedKey
spider resolution start = record { kind = Equity (codes "SPY") resolution; start = record { 0 = pos start }; fill = true }

abbrev pub universe : ℕ → FeedKey
universe start = record { kind = Coarse; start = record { 0 = pos start }; fill = false }

-- a folder with the same file at each path, one with a single file, and one with two
abbrev pub everywhere : List ℕ → Files
everywhere bytes asked = Some bytes

abbrev pub one_file : List ℕ → List ℕ → Files
one_file path bytes asked = if bytes_eq asked path then Some bytes else None

abbrev pub two_files : List ℕ → List ℕ → List ℕ → List ℕ → Files
two_files path bytes other more asked = if bytes_eq asked path then Some bytes else one_file other more asked

-- texts as lines
abbrev pub lines_of : List (List ℕ) → List ℕ
lines_of texts = flat_map (λ text. text ++ 10 ∷ []) texts

-- the ends of bars
abbrev pub ends : List Bar → List ℕ
ends rows = map end_of rows

-- an hour bar that was read
abbrev pub hour_bar : ℕ → ℕ → Bar
hour_bar end price = record {
  start = moment (end - 60);
  end = moment end;
  opening = record { 0 = pos price };
  high = record { 0 = pos price };
  low = record { 0 = pos price };
  closing = record { 0 = pos price };
  volume = record { 0 = pos 7 };
  real = true;
}

-- the same filled forward to another end
abbrev pub as_filled : Bar → Bar
as_filled bar = record bar { volume = record { 0 = pos 0 }; real = false }

abbrev pub filled_bar : ℕ → ℕ → Bar
filled_bar end price = as_filled (hour_bar end price)

-- two bars of the Friday, which end at 11:00 and at 13:00
abbrev pub two_bars : Option Bad → Kept Bar
two_bars stop = record { rows = hour_bar 2100 5 ∷ hour_bar 2220 6 ∷ []; stop = stop }

abbrev pub malformed : Bad
malformed = record { file = 0; line = 3; reason = Fields }

-- hour bars filled up to 17:00 of that day
abbrev pub by_hours : Filling
by_hours = record { hours = usual_hours; resolution = Hour; fills = true; last = 2460 }

-- a minute of a Friday, and twice a minute of the Tuesday past it
abbrev pub two_days : Files
two_days = two_files
    (codes "equity/usa/minute/spy/19700102_spy_minute_trade.csv") (lines_of (codes "36000000,5,5,5,5,7" ∷ []))
    (codes "equity/usa/minute/spy/19700106_spy_minute_trade.csv")
    (lines_of (codes "34200000,5,5,5,5,7" ∷ codes "34200000,5,5,5,5,7" ∷ []))

-- the last minute of a Sunday, and the first one of the Monday past it
abbrev pub two_nights : Files
two_nights = two_files
    (codes "equity/usa/minute/spy/19700104_spy_minute_trade.csv") (lines_of (codes "86340000,5,5,5,5,7" ∷ []))
    (codes "equity/usa/minute/spy/19700105_spy_minute_trade.csv") (lines_of (codes "0,5,5,5,5,7" ∷ []))

-- a row, one whose symbol is none, and a malformed line, of a Sunday
abbrev pub sunday : Files
sunday = one_file (codes "equity/usa/fundamental/coarse/19700104.csv")
    (lines_of (codes "1,SPY,2.5,9,22" ∷ codes "2,spy,1,1,1" ∷ codes "3,A,x" ∷ []))

-- two securities of the same bars, the second with a malformed line behind them
abbrev pub two_sources : List (ℕ × Source)
two_sources = (1, record { filling = by_hours; kept = two_bars None }) ∷ (2, record { filling = by_hours; kept = two_bars (Some malformed) }) ∷ []
