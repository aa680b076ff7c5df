use Rattle.std.proofs.Common.{◌≡◌, ap, sym, arith, pos}
use Rattle.std.proofs.lemmas.Int.{ints}
use Rattle.backtest_core.proofs.telling.is_closing.Goals as goal

pub returns-in-None : goal.returns-in-None
returns-in-None c = λ t is.
    let now : c.args.at.0 ≡ pos t = ap (λ m. m.0) is in
    sym (c.closings.ensures.not_told c.args.hours.now t (λ closing.
    c.in-None.ensures t closing (grind (arith, ints)) (grind (arith, ints))))
