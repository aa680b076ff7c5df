use Rattle.std.proofs.Common.{sym, arith}
use Rattle.order_book.proofs.HoursLemmas.{undated}
use Rattle.order_book.proofs.market.opening_of.Goals as goal

pub returns-in-None : goal.returns-in-None
returns-in-None c = sym (undated c.args.hours.now c.args.at.0 (λ dated. grind (arith, c.in-None.ensures.dated.1 dated)))
