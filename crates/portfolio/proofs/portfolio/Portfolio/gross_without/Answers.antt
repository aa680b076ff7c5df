use Rattle.std.proofs.Common.{rules, ◌≡◌, ◌-ℤ◌, to_z, of_z, sym, subst, ap, ◌∙◌}
use mir.Syntax.{w128}
use Rattle.portfolio.specs.declared.totals.Holding.{Holding}
use Rattle.portfolio.specs.Account.{Account}
use Rattle.portfolio.specs.Running.{gross_at, price_or_zero}
use Rattle.portfolio.specs.Stands.{StandsFor}
use Rattle.portfolio.proofs.StandsLemmas.{gross_rest}
use Rattle.portfolio.proofs.portfolio.Portfolio.gross_without.Goals as goal

pub returns-clause-stands : goal.returns-clause-stands
returns-clause-stands c start fills marks stands =
    let P : Account → Type 0 = λ account. StandsFor account start fills marks in
    let k : to_z w128 (of_z w128 c.gross_without.result) ≡ c.gross_without.result = search rules in
    k ∙ c.gross_without.ensures.value
    ∙ ap (λ h. let h : Holding = h in c.self.inside.totals.gross -ℤ gross_at h.lot.position (price_or_zero h.price)) c.holding_in-holding.ensures
    ∙ gross_rest c.self.inside.totals c.self.inside.holdings.entries start fills marks c.args.symbol (subst P (sym c.self.view_is) stands)
