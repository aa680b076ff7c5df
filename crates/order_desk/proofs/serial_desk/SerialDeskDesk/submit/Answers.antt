-- The book handled one more command.
use Rattle.std.proofs.Common.{arith}
use Rattle.order_desk.proofs.OwedLemmas.{steady-more, some-handled, owes-more}
use Rattle.order_desk.proofs.serial_desk.SerialDeskDesk.submit.Goals as goal

pub invariant_of-self : goal.invariant_of-self
invariant_of-self c =
    let d = c.args.self.now in
    let said = c.in-Ok.ensures in
    let steady = steady-more d.book c.args.command d.unheard c.handle.new.self said.grows.0 d.told d.answered d.submitted
    d.stood said.grows.1 said.replies said.grows.2 (record { counted = d.counted; whole = d.whole; bounded = d.bounded }) in
    record {
      few = omega (arith, c.requires.few);
      counted = steady.counted;
      whole = steady.whole;
      bounded = d.bounded;
      stood = some-handled d.book c.handle.new.book c.args.command d.stood said.stands;
    }

pub returns-in-Ok-clause-stands : goal.returns-in-Ok-clause-stands
returns-in-Ok-clause-stands c s cs rs owes =
    let d = c.args.self.now in
    let said = c.in-Ok.ensures in
    owes-more d.book c.handle.new.book c.args.command d.unheard c.handle.new.self d.submitted d.answered s cs rs
    said.stands said.replies said.count (omega (arith, d.counted)) owes
