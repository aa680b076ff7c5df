-- The server served on, or it ended.
use Rattle.order_desk.proofs.ServingLemmas.{ran-then, ended-then, ended-now}
use Rattle.order_desk.proofs.server.Server.serve.Goals as goal

pub returns-then-load : goal.returns-then-load
returns-then-load g c = ended-now _ _ c.serving.invariant.ran

pub serving-preserved : goal.serving-preserved
serving-preserved g c = record { next = (record {}, record {}); ran = ran-then _ _ _ c.serving.invariant.ran c.in-Ok.ensures.ran }

pub returns-in-Err-NoMemory : goal.returns-in-Err-NoMemory
returns-in-Err-NoMemory g c = ended-then _ _ _ c.serving.invariant.ran c.in-Err-NoMemory.ensures.ended

pub returns-in-Err-Over : goal.returns-in-Err-Over
returns-in-Err-Over g c = ended-then _ _ _ c.serving.invariant.ran c.in-Err-Over.ensures.ended
