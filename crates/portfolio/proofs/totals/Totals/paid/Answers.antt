use Rattle.std.proofs.Common.{rules, ◌≡◌, to_z, of_z}
use mir.Syntax.{w128}
use Rattle.std.proofs.lemmas.Int.{ints}
use Rattle.std.proofs.Common.{arith}
use Rattle.portfolio.proofs.totals.Totals.paid.Goals as goal

pub returns-clause-cash : goal.returns-clause-cash
returns-clause-cash c =
    let l : to_z w128 (of_z w128 c.less.result) ≡ c.less.result = search rules in
    let k : to_z w128 (of_z w128 c.cost_of.result) ≡ c.cost_of.result = omega (arith, ints) in
    let s : to_z w128 (of_z w128 c.args.self.cash) ≡ c.args.self.cash = omega (arith, ints) in
    cc
