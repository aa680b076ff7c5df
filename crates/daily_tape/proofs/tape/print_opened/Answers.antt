-- What was printed of the securities is the tape of the symbols.
use Rattle.std.proofs.lemmas.Result.{IfOk-weaker}
use Rattle.report_pages.proofs.PrintedLemmas.{on_err-map}
use Rattle.daily_tape.specs.DailyTape.{securities}
use Rattle.daily_tape.proofs.tape.print_opened.Goals as goal

pub returns-in-Ok-clause-told : goal.returns-in-Ok-clause-told
returns-in-Ok-clause-told g c =
    IfOk-weaker c.print_tape.result _ _ (λ ended had f files. had f (securities f c.args.symbols.now) (c.in-Ok.ensures.told f files)) c.print_tape.ensures.told

pub returns-in-Ok-clause-front : goal.returns-in-Ok-clause-front
returns-in-Ok-clause-front g c =
    on_err-map c.print_tape.result _ _ (λ had f files. had f (securities f c.args.symbols.now) (c.in-Ok.ensures.told f files)) c.print_tape.ensures.front
