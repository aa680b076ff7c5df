use Rattle.std.proofs.Common.{◌≡◌, List, [], ◌∷◌, ◌++◌, ℤ, sym, subst, ap, ◌∙◌}
use Rattle.lean_orders.specs.declared.event.Fill.{Fill}
use Rattle.portfolio.specs.declared.totals.Totals.{Totals}
use Rattle.portfolio.specs.Sums.{Mark}
use Rattle.portfolio.specs.Account.{Account, holding_in}
use Rattle.portfolio.specs.Running.{marked_totals}
use Rattle.portfolio.specs.Stands.{StandsFor}
use Rattle.portfolio.proofs.StandsLemmas.{stands-mark}
use Rattle.portfolio.proofs.portfolio.Portfolio.mark_held.Goals as goal

-- the new account for lists for which the fields stood
marked : (c : goal.After-self-1) (start : ℤ) (fills : List Fill) (marks : List Mark)
    → StandsFor (record { totals = c.self.inside.totals; entries = c.self.inside.holdings.entries }) start fills marks
    → StandsFor (record { totals = c.marked-self-inside.result; entries = c.set_price.new.holdings.entries }) start fills
    (marks ++ record { symbol = c.args.symbol; price = c.args.price.0 } ∷ [])
marked c start fills marks stands =
    let e : c.marked-self-inside.result ≡ marked_totals c.self.inside.totals (holding_in c.self.inside.holdings.entries c.args.symbol) c.args.price.0 =
    c.marked-self-inside.ensures ∙ ap (λ h. marked_totals c.self.inside.totals h c.args.price.0) c.in-Some.ensures.before in
    let P : Totals → Type 0 =
    λ t. StandsFor (record { totals = t; entries = c.set_price.new.holdings.entries }) start fills
    (marks ++ record { symbol = c.args.symbol; price = c.args.price.0 } ∷ []) in
    subst P (sym e)
    (stands-mark c.self.inside.totals c.self.inside.holdings.entries c.set_price.new.holdings.entries start fills marks
    (record { symbol = c.args.symbol; price = c.args.price.0 }) stands c.requires c.in-Some.ensures.after)

pub invariant_of-self : goal.invariant_of-self
invariant_of-self c = record {
  start = c.self.invariant.start;
  fills = c.self.invariant.fills;
  marks = c.self.invariant.marks ++ record { symbol = c.args.symbol; price = c.args.price.0 } ∷ [];
  stands = marked c c.self.invariant.start c.self.invariant.fills c.self.invariant.marks c.self.invariant.stands;
}

pub returns-in-Some-clause-stands : goal.returns-in-Some-clause-stands
returns-in-Some-clause-stands c _ start fills marks stands =
    let P : Account → Type 0 = λ account. StandsFor account start fills marks in
    marked c start fills marks (subst P (sym c.self.view_is) stands)
