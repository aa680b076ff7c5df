use Rattle.order_desk.proofs.ReplyLemmas.{whole-is}
use Rattle.order_desk.proofs.laws.front_that_serves.Goals as goal

pub returns : goal.returns
returns c = whole-is
