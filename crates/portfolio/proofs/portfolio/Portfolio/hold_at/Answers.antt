use Rattle.std.proofs.Common.{refl, sym, subst}
use Rattle.portfolio.specs.Account.{Account}
use Rattle.portfolio.specs.Stands.{StandsFor}
use Rattle.portfolio.proofs.portfolio.Portfolio.hold_at.Goals as goal

pub returns-then-mark_held-clause-stands : goal.returns-then-mark_held-clause-stands
returns-then-mark_held-clause-stands c = c.if-mark_held.ensures.stands refl

pub returns-clause-stands : goal.returns-clause-stands
returns-clause-stands c start fills marks stands =
    let P : Account → Type 0 = λ account. StandsFor account start fills marks in
    c.mark.ensures.stands start fills marks (c.in_ok-hold.ensures.stands start fills marks
    (subst P (sym (c.if-mark_held.ensures.kept refl)) stands))
