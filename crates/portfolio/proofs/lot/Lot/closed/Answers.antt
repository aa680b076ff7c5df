use Rattle.std.proofs.Common.{arith, ◌≡◌, to_z, of_z, w64}
use mir.Syntax.{w128}
use Rattle.std.proofs.lemmas.Int.{ints, to_z-of_z}
use Rattle.portfolio.specs.Lots.{closed}
use Rattle.portfolio.proofs.LotLemmas.{same_lot}
use Rattle.portfolio.proofs.lot.Lot.closed.Goals as goal

pub returns-clause-value : goal.returns-clause-value
returns-clause-value c =
    let q : to_z w64 (of_z w64 c.args.quantity) ≡ c.args.quantity = to_z-of_z w64 c.args.quantity c.ranges.quantity in
    let p : to_z w64 (of_z w64 c.args.price) ≡ c.args.price = to_z-of_z w64 c.args.price c.ranges.price in
    let h : to_z w64 (of_z w64 c.args.self.position) ≡ c.args.self.position = omega (arith, ints) in
    let k : to_z w128 (of_z w128 c.args.self.cost) ≡ c.args.self.cost = omega (arith, ints) in
    let t : to_z w128 (of_z w128 c.part_of-part.result) ≡ c.part_of-part.result = omega (arith, ints) in
    let v : to_z w128 (of_z w128 c.value_of.result) ≡ c.value_of.result = omega (arith, ints) in
    let g : to_z w128 (of_z w128 c.gain_of-gain.result) ≡ c.gain_of-gain.result = omega (arith, ints) in
    same_lot c.lessened.result (closed c.args.self c.args.quantity c.args.price) (cc) (cc) (cc)
