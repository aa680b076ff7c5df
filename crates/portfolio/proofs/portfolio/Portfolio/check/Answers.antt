use Rattle.std.proofs.Common.{subst}
use Rattle.portfolio.specs.Account.{Account, holding_in}
use Rattle.portfolio.specs.Small.{IsSmallHolding}
use Rattle.portfolio.proofs.SmallLemmas.{holding_small}
use Rattle.portfolio.proofs.portfolio.Portfolio.check.Goals as goal

pub returns : goal.returns
returns c =
    let P : Account → Type 0 = λ account. IsSmallHolding (holding_in account.entries c.args.symbol.now) in
    subst P c.self.view_is
    (holding_small c.self.inside.totals c.self.inside.holdings.entries c.self.invariant.start c.self.invariant.fills c.self.invariant.marks c.self.invariant.stands
    c.args.symbol.now)
