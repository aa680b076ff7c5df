-- The line stands on the page that was turned.
use Rattle.report_pages.specs.Lines.{row_line}
use Rattle.report_pages.proofs.PrintedLemmas.{prints-line}
use Rattle.report_pages.proofs.pages.print_row.Goals as goal

pub returns : goal.returns
returns g c =
    let line = row_line c.args.front.now c.args.symbol.now c.args.trades.now in
    let turned = c.turn_page.ensures in
    let is = c.append_row.ensures in
    prints-line g.S.Sink.told g.S.Sink.faults c.args.out.now c.turn_page.new.out c.args.page.now c.turn_page.new.page line c.turn_page.result
    (rw (← is) turned.ok) turned.room (rw (← is) turned.front) turned.cause turned.grows
