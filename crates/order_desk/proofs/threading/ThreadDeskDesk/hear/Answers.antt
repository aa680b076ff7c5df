-- The desk of this kind says it.
use Rattle.order_desk.proofs.threading.ThreadDeskDesk.hear.Goals as goal

pub returns-in-There-clause-stands : goal.returns-in-There-clause-stands
returns-in-There-clause-stands g c s cs rs stood = c.hear.ensures.stands s cs rs (rw c.in-There.is at stood)

pub returns-in-Here-clause-stands : goal.returns-in-Here-clause-stands
returns-in-Here-clause-stands g c s cs rs stood = c.hear-in-Here.ensures.stands s cs rs (rw c.in-Here.is at stood)
