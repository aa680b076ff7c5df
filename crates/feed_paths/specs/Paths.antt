-- The paths of files, after LEAN's folder layout.
use Rattle.std.specs.Prelude.{ℕ, ◌+◌, ◌&&◌, nat_le, if◌then◌else◌, List, ◌++◌, map, codes}
use Rattle.lean_fixed.specs.declared.resolution.Resolution.TheVariants.{Minute, Hour, Daily}
use Rattle.lean_fixed.specs.Printed.{day_text}
use Rattle.lean_items.specs.declared.feed_key.FeedKey.{FeedKey}
use Rattle.lean_items.specs.declared.feed_key.FeedKind.{FeedKind}
use Rattle.lean_items.specs.declared.feed_key.FeedKind.TheVariants.{Coarse, Equity}

-- 'A' to 'Z' as 'a' to 'z'
abbrev pub lower_case : ℕ → ℕ
lower_case b = if nat_le 65 b && nat_le b 90 then b + 32 else b

-- a symbol as it stands in a path
abbrev pub lower : List ℕ → List ℕ
lower symbol = map lower_case symbol

-- the path of a kind's file, from the folder on
unfoldable pub path_of : FeedKind → ℕ → List ℕ
path_of Coarse file = codes "equity/usa/fundamental/coarse/" ++ day_text file ++ codes ".csv"
path_of (Equity symbol Minute) file =
    codes "equity/usa/minute/" ++ lower symbol ++ codes "/" ++ day_text file ++ codes "_" ++ lower symbol ++ codes "_minute_trade.csv"
path_of (Equity symbol Hour) file = codes "equity/usa/hour/" ++ lower symbol ++ codes ".csv"
path_of (Equity symbol Daily) file = codes "equity/usa/daily/" ++ lower symbol ++ codes ".csv"

abbrev pub path : FeedKey → ℕ → List ℕ
path key file = path_of key.kind file
