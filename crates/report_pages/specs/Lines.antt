-- The lines of a tape. Each ends with an LF, and its parts are joined by one space.
use Rattle.std.specs.Prelude.{ℕ, unsigned_abs, List, [], ◌∷◌, ◌++◌, codes, decimal}
use Rattle.lean_fixed.specs.Printed.{money_text}
use Rattle.lean_items.specs.declared.bad.Bad.{Bad}
use Rattle.lean_items.specs.declared.feed_key.FeedKind.{FeedKind}
use Rattle.lean_items.specs.Reasons.{reason_text}
use Rattle.feed_paths.specs.Paths.{path_of}
use Rattle.report_pages.specs.declared.trades.Trades.{Trades}

-- a part of a line, behind a space
abbrev pub part : List ℕ → List ℕ
part text = 32 ∷ text

-- the line of a row: a day or a moment in front, then the symbol, the opening, high, low and closing price, and the volume
unfoldable pub row_line : List ℕ → List ℕ → Trades → List ℕ
row_line front symbol trades =
    front ++ part symbol
    ++ part (money_text trades.opening.0) ++ part (money_text trades.high.0) ++ part (money_text trades.low.0) ++ part (money_text trades.closing.0)
    ++ part (decimal (unsigned_abs trades.volume.0)) ++ 10 ∷ []

-- the last line of a whole tape, with the number of rows
abbrev pub end_line : ℕ → List ℕ
end_line n = codes "end " ++ decimal n ++ codes " rows\n"

-- the line that names a malformed line: the path of its file, its number, and the reason
abbrev pub data_line_of : List ℕ → Bad → List ℕ
data_line_of path bad = codes "data " ++ path ++ codes " line " ++ decimal bad.line ++ part (reason_text bad.reason) ++ 10 ∷ []

unfoldable pub data_line : FeedKind → Bad → List ℕ
data_line kind bad = data_line_of (path_of kind bad.file) bad
