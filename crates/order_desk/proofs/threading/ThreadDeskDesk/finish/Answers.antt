-- The desk of this kind says it.
use Rattle.order_desk.proofs.threading.ThreadDeskDesk.finish.Goals as goal

pub returns-in-There-clause-whole : goal.returns-in-There-clause-whole
returns-in-There-clause-whole g c fed s cs rs stood = c.finish.ensures.whole (rw c.in-There.is at fed) s cs rs (rw c.in-There.is at stood)
