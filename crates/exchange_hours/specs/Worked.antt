-- The hours and the file on which worked values are computed.
use Rattle.std.specs.Prelude.{ℕ, true, List, [], ◌∷◌, ◌++◌, map, codes}
use Rattle.exchange_hours.specs.declared.entries.Segment.{Segment}
use Rattle.exchange_hours.specs.Entries.{Entries}

-- from 09:30 to 16:00
abbrev pub usual_segment : ℕ → Segment
usual_segment weekday = record { weekday = weekday; is_market = true; start = 570; end = 960 }

-- From Monday to Friday, but for Thanksgiving, 2013-11-28; the day after it closes at 13:00, the earlier of two.
abbrev pub november_hours : Entries
november_hours = record {
  segments = map usual_segment (1 ∷ 2 ∷ 3 ∷ 4 ∷ 5 ∷ []);
  holidays = 16037 ∷ [];
  early_closes = record { day = 16038; minute = 780 } ∷ record { day = 16038; minute = 840 } ∷ [];
}

-- a file with a Monday and a holiday
abbrev pub monday_file : List ℕ
monday_file =
    codes "{\"entries\":{\"Equity-usa-[*]\":{\"monday\":["
    ++ codes "{\"start\":\"09:30:00\",\"end\":\"16:00:00\",\"state\":\"market\"}],"
    ++ codes "\"holidays\":[\"10/14/2013\"]}}}"
