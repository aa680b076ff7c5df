use Rattle.std.proofs.Common.{subst}
use Rattle.portfolio.specs.Account.{Account}
use Rattle.portfolio.specs.Small.{IsSmall}
use Rattle.portfolio.proofs.SmallLemmas.{totals_small}
use Rattle.portfolio.proofs.portfolio.Portfolio.check_totals.Goals as goal

pub returns : goal.returns
returns c =
    let P : Account → Type 0 = λ account. IsSmall account.totals in
    subst P c.self.view_is
    (totals_small c.self.inside.totals c.self.inside.holdings.entries c.self.invariant.start c.self.invariant.fills c.self.invariant.marks c.self.invariant.stands)
