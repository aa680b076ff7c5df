-- One more command was sent.
use Rattle.std.proofs.Common.{◌≡◌, ◌+◌, ap, sym, ◌∙◌}
use Rattle.clock_book.specs.Fitting.{submits}
use Rattle.order_desk.proofs.LinkLemmas.{links-sent}
use Rattle.order_desk.proofs.lane_desking.LaneDeskDesk.submit.Goals as goal

pub returns-in-Ok-clause-stands : goal.returns-in-Ok-clause-stands
returns-in-Ok-clause-stands g c s cs rs linked =
    let d = c.args.self.now in
    let said = c.in-Ok.ensures in
    let ordered : c.with_order-self.result ≡ d.orders + submits c.args.command =
    c.with_order-self.ensures ∙ ap (λ k. d.orders + k) (sym c.is_submit-more.ensures) in
    record {
      begun = linked.begun;
      links = links-sent d.submitted d.orders _ d.answered d.told _ _ _ _ _ _ c.args.command s cs rs said.sent ordered d.within said.passed linked.links;
    }
