use Rattle.std.proofs.Common.{◌≤ℤ◌, ◌+ℤ◌, ◌-ℤ◌, pos, to_z, of_z, w64, ◌∙◌, ap, arith}
use Rattle.std.proofs.lemmas.Int.{ints, to_z-of_z}
use Rattle.std.specs.Option.{option_map_or}
use Rattle.lean_fixed.specs.declared.money.Price.{Price}
use Rattle.bar_windows.proofs.Hears.{sum_within, hears_sum, hears_candidates, same_bits}
use Rattle.bar_windows.proofs.Moves.{leaving_price}
use Rattle.bar_windows.proofs.window.Window.hear.Goals as goal

pub moved-requires-clause-low : goal.moved-requires-clause-low
moved-requires-clause-low c =
    let bounds = sum_within c.args.self.now c.args.closes.now.items c.in-Sum.sum c.requires.heard c.leaving-leaving.ensures.prices c.in-Sum.is in
    let low : pos 0 ≤ℤ c.in-Sum.sum = bounds.0 in
    rw (same_bits c.in-Sum.sum bounds) (omega (arith, ints))

pub moved-requires-clause-high : goal.moved-requires-clause-high
moved-requires-clause-high c =
    let bounds = sum_within c.args.self.now c.args.closes.now.items c.in-Sum.sum c.requires.heard c.leaving-leaving.ensures.prices c.in-Sum.is in
    let high : c.in-Sum.sum ≤ℤ pos 10000000000000 = bounds.1 in
    rw (same_bits c.in-Sum.sum bounds) (omega (arith, ints))

pub moved-requires-clause-leaving : goal.moved-requires-clause-leaving
moved-requires-clause-leaving c =
    leaving_price c.args.self.now.spec.length c.args.closes.now.items c.leaving-leaving.result c.requires.heard.length.0 c.leaving-leaving.ensures.prices c.leaving-leaving.ensures.leaving

pub returns-in-Sum-clause-heard : goal.returns-in-Sum-clause-heard
returns-in-Sum-clause-heard c =
    let bounds = sum_within c.args.self.now c.args.closes.now.items c.in-Sum.sum c.requires.heard c.leaving-leaving.ensures.prices c.in-Sum.is in
    hears_sum c.args.self.now c.args.closes.now.items c.args.close c.leaving-leaving.result c.in-Sum.sum (to_z w64 (of_z w64 c.moved.result))
    c.requires.heard c.in-Sum.is c.leaving-leaving.ensures.leaving
    (to_z-of_z w64 c.moved.result (record { sfits = c.moved.type_inv }) ∙ c.moved.ensures
    ∙ ap (λ z. (z +ℤ c.args.close.0) -ℤ option_map_or (λ (left : Price). left.0) c.leaving-leaving.result (pos 0)) (same_bits c.in-Sum.sum bounds))

pub returns-in-Candidates-clause-heard : goal.returns-in-Candidates-clause-heard
returns-in-Candidates-clause-heard c =
    hears_candidates c.args.self.now c.args.closes.now.items c.args.close c.leaving-leaving.result c.in-Candidates.candidates c.renew.new.kept
    c.requires.heard c.in-Candidates.is c.leaving-leaving.ensures.leaving c.renew.ensures
