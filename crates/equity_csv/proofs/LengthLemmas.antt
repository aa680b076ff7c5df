-- No line that is written is long.
use Rattle.std.proofs.Common.{◌≡◌, ℕ, ◌*◌, ◌/◌, ◌≤◌, unsigned_abs, ◌++◌, length, decimal, arith, length-append}
use Rattle.std.proofs.lemmas.Fmt.{length-decimal-le}
use Rattle.lean_fixed.specs.Printed.{day_text}
use Rattle.equity_csv.specs.declared.row.Row.{Row}
use Rattle.equity_csv.specs.Written.{IsRow, day_of_row, minute_of_row, values_text, minute_line, hour_text, dated_line}
use Rattle.equity_csv.proofs.AppendLemmas.{length_values}
use Rattle.equity_csv.proofs.ReadBackLemmas.{row-valued}

length-values : (row : Row) → IsRow row → length (values_text row) ≤ 65
length-values row i =
    let w = row-valued row i in
    let o = length-decimal-le 11 (unsigned_abs row.opening.0) (omega arith) (omega (arith, w.o_high)) (omega (arith, w.o_high)) in
    let h = length-decimal-le 11 (unsigned_abs row.high.0) (omega arith) (omega (arith, w.h_high)) (omega (arith, w.h_high)) in
    let l = length-decimal-le 11 (unsigned_abs row.low.0) (omega arith) (omega (arith, w.l_high)) (omega (arith, w.l_high)) in
    let c = length-decimal-le 11 (unsigned_abs row.closing.0) (omega arith) (omega (arith, w.c_high)) (omega (arith, w.c_high)) in
    let v = length-decimal-le 16 (unsigned_abs row.volume.0) (omega arith) (omega (arith, w.v_high)) (omega (arith, w.v_high)) in
    omega (arith, o, h, l, c, v, length_values (decimal (unsigned_abs row.opening.0)) (decimal (unsigned_abs row.high.0)) (decimal (unsigned_abs row.low.0)) (decimal (unsigned_abs row.closing.0)) (decimal (unsigned_abs row.volume.0)))

pub length-minute_line : (row : Row) → IsRow row → length (minute_line row) ≤ 73
length-minute_line row i =
    let values = length-values row i in
    let time = length-decimal-le 8 (minute_of_row row * 60000) (omega arith) (omega arith) (omega arith) in
    omega (arith, time, values, length-append (decimal (minute_of_row row * 60000)) (values_text row))

pub length-dated_line : ((day : ℕ) → length (day_text day) ≡ 8) → (row : Row) → IsRow row → length (dated_line row) ≤ 79
length-dated_line eight row i =
    let values = length-values row i in
    let day = day_text (day_of_row row) in
    let hour = hour_text (minute_of_row row / 60) in
    omega (arith, values, eight (day_of_row row), length-append (day ++ hour) (values_text row), length-append day hour)
