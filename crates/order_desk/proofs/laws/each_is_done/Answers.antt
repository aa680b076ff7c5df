use Rattle.order_desk.proofs.ReplyLemmas.{served-replies}
use Rattle.order_desk.proofs.laws.each_is_done.Goals as goal

pub returns : goal.returns
returns c = served-replies
