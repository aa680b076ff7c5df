use Rattle.order_desk.proofs.ReplyLemmas.{served-is, right-before, right-after, right-now, served-rest}
use Rattle.order_desk.proofs.laws.served_parts.Goals as goal

pub returns-clause-end : goal.returns-clause-end
returns-clause-end c = right-now

pub returns-clause-before : goal.returns-clause-before
returns-clause-before c = right-before

pub returns-clause-whole : goal.returns-clause-whole
returns-clause-whole c = served-is

pub returns-clause-after : goal.returns-clause-after
returns-clause-after c = right-after

pub returns-clause-rest : goal.returns-clause-rest
returns-clause-rest c = served-rest
