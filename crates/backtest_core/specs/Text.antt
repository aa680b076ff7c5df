-- The text of a moment.
use Rattle.std.specs.Prelude.{ℕ, List, [], ◌∷◌, flat_map}
use Rattle.std.specs.List.{filter_map}
use Rattle.lean_orders.specs.declared.desk.Reply.{Reply}
use Rattle.clock_run.specs.Moments.{told}
use Rattle.clock_run.specs.Lines.{Line, line_bytes}

abbrev pub lines_bytes : List Line → List ℕ
lines_bytes lines = flat_map line_bytes lines

-- the line of a reply at a moment, where it has one
abbrev pub lines_told : ℕ → Reply → List Line
lines_told t reply = filter_map (told t) (reply ∷ [])
