use Rattle.order_desk.proofs.ReplyLemmas.{after-append, replies-append}
use Rattle.order_desk.proofs.laws.more_commands.Goals as goal

pub returns-clause-book : goal.returns-clause-book
returns-clause-book c = after-append

pub returns-clause-replies : goal.returns-clause-replies
returns-clause-replies c = replies-append
