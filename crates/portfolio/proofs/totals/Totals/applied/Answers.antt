use Rattle.std.proofs.Common.{arith, ◌≡◌, to_z, of_z, w64}
use Rattle.std.proofs.lemmas.Int.{ints}
use Rattle.portfolio.specs.Running.{applied_totals}
use Rattle.portfolio.proofs.TotalsLemmas.{same_totals}
use Rattle.portfolio.proofs.totals.Totals.applied.Goals as goal

pub returns : goal.returns
returns c =
    let h : to_z w64 (of_z w64 c.args.holding.now.lot.position) ≡ c.args.holding.now.lot.position = omega (arith, ints) in
    let n : to_z w64 (of_z w64 c.args.after.now.position) ≡ c.args.after.now.position = omega (arith, ints) in
    let p : to_z w64 (of_z w64 c.price_or_zero-price.result) ≡ c.price_or_zero-price.result = omega (arith, ints) in
    same_totals c.paid.result (applied_totals c.args.self c.args.holding.now c.args.fill.now) (cc) (cc) (cc) (cc) (cc) (cc)
