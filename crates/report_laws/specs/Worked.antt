-- The lines of a buy, small enough to compute on.
use Rattle.std.specs.Prelude.{ℕ, pos, List, [], ◌∷◌, Some, None}
use Rattle.lean_orders.specs.declared.event.Fill.{Fill}
use Rattle.lean_orders.specs.declared.event.What.{What}
use Rattle.lean_orders.specs.declared.event.What.TheVariants.{Submitted, Filled}
use Rattle.lean_orders.specs.declared.order.Kind.TheVariants.{Market}
use Rattle.clock_run.specs.Lines.{Line, happened, closed}
use Rattle.report_laws.specs.Fills.{fills_printed}
use Rattle.report_laws.specs.Ledger.{Ledger}

abbrev pub spider : List ℕ
spider = 83 ∷ 80 ∷ 89 ∷ []

-- 100 shares at 168.0000, with a fee of 1.0000
abbrev pub bought : Fill
bought =
    record { symbol = spider; quantity = record { 0 = pos 100 }; price = record { 0 = pos 1680000 }; fee = record { 0 = pos 10000 } }

-- at 09:45 of 2013-10-08
abbrev pub told : What → Line
told what = happened (record { at = record { 0 = pos 23020425 }; id = 1; symbol = Some spider; what = what })

abbrev pub lines : List Line
lines =
    told (Submitted Market (record { 0 = pos 100 }) None None)
    ∷ told (Filled bought)
    ∷ closed 23020800 (pos 831990000) (pos 999990000) ∷ []

-- 100000.0000, the fills of the lines, and a later price behind an earlier one
abbrev pub ledger_at : ℕ → Ledger
ledger_at price = record {
  start = pos 1000000000;
  fills = fills_printed lines;
  prices = record { symbol = spider; price = pos 1670000 } ∷ record { symbol = spider; price = pos price } ∷ [];
}
