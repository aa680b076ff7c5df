use Rattle.std.proofs.Common.{rules, ◌≡◌, to_z, of_z, w64, sym, subst, ap, ◌∙◌}
use Rattle.portfolio.specs.declared.totals.Holding.{Holding}
use Rattle.portfolio.specs.Account.{Account}
use Rattle.portfolio.specs.Stands.{StandsFor}
use Rattle.portfolio.proofs.StandsLemmas.{kept-position}
use Rattle.portfolio.proofs.portfolio.Portfolio.position.Goals as goal

pub returns-clause-stands : goal.returns-clause-stands
returns-clause-stands c start fills marks stands =
    let P : Account → Type 0 = λ account. StandsFor account start fills marks in
    let inside = subst P (sym c.self.view_is) stands in
    let k : to_z w64 (of_z w64 c.holding_in.result.lot.position) ≡ c.holding_in.result.lot.position = search rules in
    k
    ∙ ap (λ h. let h : Holding = h in h.lot.position) (c.holding_in.ensures ∙ inside.holdings c.args.symbol)
    ∙ kept-position c.args.symbol fills marks
