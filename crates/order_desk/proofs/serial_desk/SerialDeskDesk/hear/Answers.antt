-- The next reply was heard.
use Rattle.std.proofs.Common.{refl, ap, arith}
use Rattle.order_desk.specs.Served.{is_done, dones}
use Rattle.order_desk.proofs.OwedLemmas.{due-passed, owes-less, room-less}
use Rattle.order_desk.proofs.serial_desk.SerialDeskDesk.hear.Goals as goal

pub returns-in-None-clause-due : goal.returns-in-None-clause-due
returns-in-None-clause-due c = omega (arith, c.args.self.now.counted, ap dones c.in-None.ensures.none)

pub returns-in-Some-clause-due : goal.returns-in-Some-clause-due
returns-in-Some-clause-due c =
    let d = c.args.self.now in
    (refl, due-passed d.unheard c.pop.new.self c.in-Some.reply d.told d.answered d.submitted c.in-Some.ensures.first d.whole d.counted)

pub returns-in-Some-clause-stands : goal.returns-in-Some-clause-stands
returns-in-Some-clause-stands c s cs rs owes =
    let d = c.args.self.now in
    rw c.answered_behind-self.ensures
    (owes-less d.book c.in-Some.reply d.unheard c.pop.new.self d.submitted d.answered s cs rs c.in-Some.ensures.first owes)

pub returns-in-Some-clause-fewer : goal.returns-in-Some-clause-fewer
returns-in-Some-clause-fewer c =
    let d = c.args.self.now in
    let due = due-passed d.unheard c.pop.new.self c.in-Some.reply d.told d.answered d.submitted c.in-Some.ensures.first d.whole d.counted in
    rw (c.answered_behind-self.ensures, c.told_behind-self.ensures) (room-less (is_done c.in-Some.reply) d.submitted d.answered d.told due d.bounded)
