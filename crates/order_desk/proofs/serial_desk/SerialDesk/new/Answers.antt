use Rattle.order_desk.proofs.OwedLemmas.{owes-new}
use Rattle.order_desk.proofs.serial_desk.SerialDesk.new.Goals as goal

pub returns-clause-stands : goal.returns-clause-stands
returns-clause-stands c s stands = rw c.new.ensures (owes-new c.args.book s stands)
