use Rattle.std.proofs.Common.{arith, ◌≡◌, pos, neg_ℤ, ◌+ℤ◌, ◌-ℤ◌, to_z, of_z, w64}
use Rattle.std.proofs.lemmas.Int.{ints, to_z-of_z}
use Rattle.lean_fixed.specs.Ranges.{IsAtMost, most_quantity}
use Rattle.portfolio.proofs.LotLemmas.{rest_at_most}
use Rattle.portfolio.proofs.lot.Lot.turned.Goals as goal

pub opened-requires-clause-quantity : goal.opened-requires-clause-quantity
opened-requires-clause-quantity c =
    let rest : IsAtMost most_quantity (c.args.self.position +ℤ c.args.quantity) =
    rest_at_most most_quantity c.args.self.position c.args.quantity c.requires.other c.requires.more c.requires.quantity in
    (omega (arith, ints, rest.0, rest.1), omega (arith, ints, rest.0, rest.1))

pub returns : goal.returns
returns c =
    let q : to_z w64 (of_z w64 c.args.quantity) ≡ c.args.quantity = to_z-of_z w64 c.args.quantity c.ranges.quantity in
    let p : to_z w64 (of_z w64 c.args.price) ≡ c.args.price = to_z-of_z w64 c.args.price c.ranges.price in
    let rest : IsAtMost most_quantity (c.args.self.position +ℤ c.args.quantity) =
    rest_at_most most_quantity c.args.self.position c.args.quantity c.requires.other c.requires.more c.requires.quantity in
    let n : to_z w64 (of_z w64 (pos 0 -ℤ to_z w64 (of_z w64 c.args.self.position))) ≡ neg_ℤ c.args.self.position = omega (arith, ints) in
    let s : to_z w64 (of_z w64 (to_z w64 (of_z w64 c.args.self.position) +ℤ to_z w64 (of_z w64 c.args.quantity)))
    ≡ c.args.self.position +ℤ c.args.quantity =
    omega (arith, ints, rest.0, rest.1) in
    cc
