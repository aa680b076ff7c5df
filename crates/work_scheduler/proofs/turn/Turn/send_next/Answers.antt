-- The item in hand was sent, or is kept.
use Rattle.std.proofs.Common.{refl, ap, ◌++◌}
use Rattle.work_scheduler.specs.Served.{held_items}
use Rattle.work_scheduler.proofs.ServedLemmas.{given-sent}
use Rattle.work_scheduler.proofs.TurnLemmas.{ran-still}
use Rattle.work_scheduler.proofs.turn.Turn.send_next.Goals as goal

pub returns-in-Ok-clause-ran : goal.returns-in-Ok-clause-ran
returns-in-Ok-clause-ran g c =
    ran-still _ _ _ c.draw-item.ensures.ran refl (given-sent _ _ _ _ c.draw-item.ensures.held c.in-Ok.ensures.sent) c.in-Ok.ensures.lane c.in-Ok.ensures.capacity

pub returns-in-Err-clause-ran : goal.returns-in-Err-clause-ran
returns-in-Err-clause-ran g c =
    ran-still _ _ _ c.draw-item.ensures.ran refl (ap (λ l. l ++ held_items c.draw-item.new.self.held) c.in-Err.ensures.sent.1) c.in-Err.ensures.lane c.in-Err.ensures.capacity
