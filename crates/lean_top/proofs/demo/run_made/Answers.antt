-- The made folder tells the files of the definition, and the sink took the whole report.
use Rattle.std.proofs.Common.{ap}
use Rattle.std.specs.Prelude.{Some}
use Rattle.std.proofs.lemmas.Result.{IfOk-weaker}
use Rattle.lean_top.specs.Kept.{TailState}
use Rattle.lean_top.specs.Report.{made_folder, made_report}
use Rattle.lean_top.proofs.DemoLemmas.{ended}
use Rattle.lean_top.proofs.demo.run_made.Goals as goal

pub returns-clause-end : goal.returns-clause-end
returns-clause-end c =
    let number = c.args.number in
    let has = c.backtest-status.ensures.reported (made_folder number) (ap Some c.in_ok-folder.ensures.files) in
    IfOk-weaker c.end_by.result _ _ (λ end both. record { text = both.0; status = both.1 })
    (ended (made_report number) _ (Some c.new-tail.result.bytes) c.backtest-status.new.out.bytes c.backtest-status.result c.end_by.result
    (ap (λ (tail : TailState). Some tail.bytes) c.new-tail.ensures) has c.end_by.ensures.text c.end_by.ensures.status c.end_by.ensures.whole)
