-- The rows, the last line and the last flush one after another.
use Rattle.std.proofs.Common.{[], subst}
use Rattle.report_pages.proofs.PrintedLemmas.{on_err}
use Rattle.daily_tape.proofs.Reporting.{report_of, taken_whole, front_of_rows, front_of_last}
use Rattle.daily_tape.specs.DailyTape.{tape_text}
use Rattle.daily_tape.specs.Endings.{IsLast}
use Rattle.report_pages.specs.Printed.{IsPrinted}
use Rattle.daily_tape.proofs.tape.print_tape.Goals as goal

pub returns-in_err-ended-clause-front : goal.returns-in_err-ended-clause-front
returns-in_err-ended-clause-front g c =
    on_err c.from_residual-in_err-ended.result _
    (λ f all follows. front_of_rows all c.print_rows.new.sources.items (g.S.Sink.told c.args.out.now) (g.S.Sink.told c.print_rows.new.out) c.in_ok-page.page c.print_rows.new.page c.in_ok-ending.ending
    c.in_ok-page.ensures c.in_ok-ending.ensures.stopped (c.in_ok-ending.ensures.told f all follows))

pub returns-in_err-flush-clause-front : goal.returns-in_err-flush-clause-front
returns-in_err-flush-clause-front g c =
    let last = c.in_ok-ended.ensures.last in
    let is : IsLast c.print_rows.new.sources.items c.in_ok-ending.ending c.in_ok-ended.ended last.0
    = subst (λ sources. IsLast sources c.in_ok-ending.ending c.in_ok-ended.ended last.0) c.deref.ensures.value last.2 in
    on_err c.from_residual-in_err-flush.result _
    (λ f all follows. front_of_last all c.print_rows.new.sources.items (g.S.Sink.told c.args.out.now) (g.S.Sink.told c.print_rows.new.out) (g.S.Sink.told c.flush.new.out)
    c.in_ok-page.page c.print_rows.new.page c.append_last.new.page last.0 c.in_ok-ending.ending c.in_ok-ended.ended
    c.in_ok-page.ensures (c.in_ok-ending.ensures.told f all follows) last.1 is c.in_err-flush.ensures.front)

pub returns-clause-told : goal.returns-clause-told
returns-clause-told g c f all follows =
    let last = c.in_ok-ended.ensures.last in
    let is : IsLast c.print_rows.new.sources.items c.in_ok-ending.ending c.in_ok-ended.ended last.0
    = subst (λ sources. IsLast sources c.in_ok-ending.ending c.in_ok-ended.ended last.0) c.deref.ensures.value last.2 in
    let t = c.in_ok-ending.ensures.told f all follows in
    let printed : IsPrinted (g.S.Sink.told c.args.out.now) (g.S.Sink.told c.print_rows.new.out) [] c.print_rows.new.page (tape_text t.rows)
    = subst (λ page. IsPrinted (g.S.Sink.told c.args.out.now) (g.S.Sink.told c.print_rows.new.out) page c.print_rows.new.page (tape_text t.rows)) c.in_ok-page.ensures t.printed in
    let flushed : IsPrinted (g.S.Sink.told c.print_rows.new.out) (g.S.Sink.told c.flush.new.out) c.append_last.new.page [] [] = c.in_ok-flush.ensures.ok in
    report_of all c.print_rows.new.sources.items t.rows c.in_ok-ending.ending c.in_ok-ended.ended last.0 (g.S.Sink.told c.args.out.now) (g.S.Sink.told c.flush.new.out) t.ends is
    (taken_whole (g.S.Sink.told c.args.out.now) (g.S.Sink.told c.print_rows.new.out) (g.S.Sink.told c.flush.new.out) c.print_rows.new.page (tape_text t.rows) last.0 printed
    (subst (λ page. IsPrinted (g.S.Sink.told c.print_rows.new.out) (g.S.Sink.told c.flush.new.out) page [] []) last.1 flushed))
