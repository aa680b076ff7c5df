-- Eight digits and a comma are the time.
use Rattle.std.proofs.Common.{◌≡◌, ◌*◌, ◌/◌, ◌%◌, ◌==◌, ◌&&◌, true, nat_lt, option_map, ap, refl, drop, arith}
use Rattle.std.proofs.lemmas.Bool.Decides.{nat_tests}
use Rattle.lean_fixed.specs.Fields.{fields}
use Rattle.lean_fixed.specs.Moments.{minutes_per_day}
use Rattle.equity_csv.specs.Rows.{minute_in}
use Rattle.equity_csv.proofs.StepLemmas.{kept, first_of-through}
use Rattle.equity_csv.proofs.minute.plain_minute.Goals as goal

pub returns-clause-read : goal.returns-clause-read
returns-clause-read c =
    let text = c.args.text.now in
    let n = c.in_ok-time.time.number in
    let nine : c.in_ok-time.time.next ≡ 9 = omega (arith, c.in_ok-time.ensures.within, c.if-time-le-TIME.false) in
    let early : nat_lt n (minutes_per_day * 60000) ≡ true = grind (arith, nat_tests) in
    let whole : (n % 60000 == 0) ≡ true = grind (arith, nat_tests) in
    first_of-through minute_in (fields text) n (n / 60000) (fields (drop 9 text)) (rw nine at c.in_ok-time.ensures.read)
    (λ field e. ap (option_map (λ ms. ms / 60000)) (kept (λ ms. nat_lt ms (minutes_per_day * 60000) && (ms % 60000 == 0)) field n (rw (early, whole) refl) e))
