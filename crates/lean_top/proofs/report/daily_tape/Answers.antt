-- What was printed is the report, by how the tape ended.
use Rattle.std.proofs.Common.{sym, subst}
use Rattle.std.proofs.lemmas.Result.{IfOk-weaker}
use Rattle.report_pages.proofs.PrintedLemmas.{on_err-map}
use Rattle.daily_tape.specs.DailyTape.{securities, tape}
use Rattle.lean_top.specs.Outcome.{HasReported}
use Rattle.lean_top.specs.Report.{daily_report_of, AreDaysOf}
use Rattle.lean_top.proofs.TapeLemmas.{daily_reported}
use Rattle.lean_top.proofs.report.daily_tape.Goals as goal

pub returns-clause-reported : goal.returns-clause-reported
returns-clause-reported g c f told =
    let all = securities f c.args.symbols.now in
    let told0 = g.S.Sink.told c.args.out.now in
    let told1 = g.S.Sink.told c.print_daily-ended.new.out in
    let printed = IfOk-weaker c.print_daily-ended.result _ _ (λ ended had. had f told) c.print_daily-ended.ensures.told in
    let front = on_err-map c.print_daily-ended.result _ _ (λ had. had f told) c.print_daily-ended.ensures.front in
    subst (HasReported (daily_report_of (tape all)) (AreDaysOf all) told0 told1) (sym c.status_of.ensures)
    (daily_reported all (λ rows whole. c.days_are_a_front.ensures all rows whole) c.print_daily-ended.result told0 told1 printed front)
