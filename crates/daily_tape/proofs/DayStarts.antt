-- The row that a line of a daily file says starts at 00:00 of its day.
use Rattle.std.proofs.Common.{◌≡◌, ℕ, ◌*◌, ◌/◌, List, refl, ap, ◌∙◌, arith, ℤ, pos, negsuc, ◌≤ℤ◌, ◌<ℤ◌, unsigned_abs}
use Rattle.std.specs.Prelude.{Ok}
use Rattle.std.proofs.lemmas.Int.{ints}
use Rattle.lean_fixed.specs.Fields.{fields}
use Rattle.lean_fixed.specs.declared.resolution.Resolution.TheVariants.{Daily}
use Rattle.lean_fixed.proofs.RoundTrips.{day_of_digits-last}
use Rattle.equity_csv.specs.declared.row.Row.{Row}
use Rattle.equity_csv.specs.Rows.{dated_row}
use Rattle.equity_csv.specs.Written.{IsRow, minute_of_row}
use Rattle.equity_csv.proofs.SaidLemmas.{dated-valid, daily-midnight}
use Rattle.daily_tape.specs.Entry.{IsDaily}

start_at : (start : ℤ) → pos 0 ≤ℤ start → start ≡ pos (unsigned_abs start)
start_at (pos n) low = refl
start_at (negsuc n) low = absurd (omega (arith, ints))

daily_of : (row : Row) → IsRow row → minute_of_row row ≡ 0 → IsDaily row
daily_of row is midnight =
    let n = unsigned_abs row.start.0 in
    let start = start_at row.start.0 is.start.0 in
    let below : pos n <ℤ pos (84006 * 1440) = rw start at is.start.1 in
    let whole : n ≡ 1440 * (n / 1440) = omega (arith, midnight) in
    record {
      whole_day = start ∙ ap pos whole;
      in_range = omega (arith, ints, below);
      volume_in_range = is.volume.0;
    }

pub daily_row-is : (text : List ℕ) (row : Row) → dated_row Daily text ≡ Ok row → IsDaily row
unfolding dated_row
daily_row-is text row is =
    daily_of row (dated-valid day_of_digits-last Daily (fields text) row is) (daily-midnight day_of_digits-last (fields text) row is)
