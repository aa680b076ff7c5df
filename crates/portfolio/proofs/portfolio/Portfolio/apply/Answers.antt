use Rattle.std.proofs.Common.{◌≡◌, ◌<◌, List, [], ◌∷◌, ◌++◌, ℤ, to_z, of_z, w64, sym, subst, ap, ◌∙◌, arith, if◌then◌else◌}
use Rattle.std.proofs.lemmas.Int.{ints}
use Rattle.lean_orders.specs.declared.event.Fill.{Fill}
use Rattle.portfolio.specs.declared.totals.Totals.{Totals}
use Rattle.portfolio.specs.declared.totals.Holding.{Holding}
use Rattle.portfolio.specs.Symbols.{same_symbol}
use Rattle.portfolio.specs.LotRanges.{IsBounded}
use Rattle.portfolio.specs.Sums.{Mark}
use Rattle.portfolio.specs.Account.{Account, holding_in}
use Rattle.portfolio.specs.Running.{filled_lot, applied_totals}
use Rattle.portfolio.specs.Stands.{StandsFor, fills_applied, most_fills}
use Rattle.portfolio.proofs.StandsLemmas.{stands-fill}
use Rattle.portfolio.proofs.SmallLemmas.{filled_bounded}
use Rattle.portfolio.proofs.portfolio.Portfolio.apply.Goals as goal

pub applied-self-inside-requires-clause-after : goal.applied-self-inside-requires-clause-after
applied-self-inside-requires-clause-after c =
    let q : to_z w64 (of_z w64 c.args.fill.now.quantity.0) ≡ c.args.fill.now.quantity.0 = omega (arith, ints) in
    let p : to_z w64 (of_z w64 c.args.fill.now.price.0) ≡ c.args.fill.now.price.0 = omega (arith, ints) in
    cc

pub applied-self-inside-requires-clause-bounded : goal.applied-self-inside-requires-clause-bounded
applied-self-inside-requires-clause-bounded c =
    let e : c.filled-after.result ≡ filled_lot (holding_in c.self.inside.holdings.entries c.args.fill.now.symbol).lot c.args.fill.now =
    applied-self-inside-requires-clause-after c ∙ ap (λ h. let h : Holding = h in filled_lot h.lot c.args.fill.now) c.holding_in-before.ensures in
    let Q : Account → Type 0 = λ account. fills_applied account < most_fills in
    subst IsBounded (sym e)
    (filled_bounded c.self.inside.totals c.self.inside.holdings.entries c.self.invariant.start c.self.invariant.fills c.self.invariant.marks c.args.fill.now
    c.self.invariant.stands c.requires.fill (subst Q (sym c.self.view_is) c.requires.fewer))

-- the new account for lists for which the fields stood
applied : (c : goal.After-self-1) (start : ℤ) (fills : List Fill) (marks : List Mark)
    → StandsFor (record { totals = c.self.inside.totals; entries = c.self.inside.holdings.entries }) start fills marks
    → StandsFor (record { totals = c.applied-self-inside.result; entries = c.set_lot.new.holdings.entries }) start (fills ++ c.args.fill.now ∷ []) marks
applied c start fills marks stands =
    let q : to_z w64 (of_z w64 c.args.fill.now.quantity.0) ≡ c.args.fill.now.quantity.0 = omega (arith, ints) in
    let p : to_z w64 (of_z w64 c.args.fill.now.price.0) ≡ c.args.fill.now.price.0 = omega (arith, ints) in
    let lot : c.filled-after.result ≡ filled_lot c.holding_in-before.result.lot c.args.fill.now = cc in
    let own : c.filled-after.result ≡ filled_lot (holding_in c.self.inside.holdings.entries c.args.fill.now.symbol).lot c.args.fill.now =
    lot ∙ ap (λ h. let h : Holding = h in filled_lot h.lot c.args.fill.now) c.holding_in-before.ensures in
    let e : c.applied-self-inside.result
    ≡ applied_totals c.self.inside.totals (holding_in c.self.inside.holdings.entries c.args.fill.now.symbol) c.args.fill.now =
    c.applied-self-inside.ensures ∙ ap (λ h. applied_totals c.self.inside.totals h c.args.fill.now) c.holding_in-before.ensures in
    let P : Totals → Type 0 =
    λ t. StandsFor (record { totals = t; entries = c.set_lot.new.holdings.entries }) start (fills ++ c.args.fill.now ∷ []) marks in
    let Q : Account → Type 0 = λ account. fills_applied account < most_fills in
    subst P (sym e)
    (stands-fill c.self.inside.totals c.self.inside.holdings.entries c.set_lot.new.holdings.entries start fills marks c.args.fill.now stands c.requires.fill
    (subst Q (sym c.self.view_is) c.requires.fewer)
    (λ s. c.set_lot.ensures.after s
    ∙ ap (λ l. if same_symbol c.args.fill.now.symbol s
    then record { lot = l; price = (holding_in c.self.inside.holdings.entries c.args.fill.now.symbol).price }
    else holding_in c.self.inside.holdings.entries s) own))

pub invariant_of-self : goal.invariant_of-self
invariant_of-self c = record {
  start = c.self.invariant.start;
  fills = c.self.invariant.fills ++ c.args.fill.now ∷ [];
  marks = c.self.invariant.marks;
  stands = applied c c.self.invariant.start c.self.invariant.fills c.self.invariant.marks c.self.invariant.stands;
}

pub returns-clause-stands : goal.returns-clause-stands
returns-clause-stands c start fills marks stands =
    let P : Account → Type 0 = λ account. StandsFor account start fills marks in
    applied c start fills marks (subst P (sym c.self.view_is) stands)
