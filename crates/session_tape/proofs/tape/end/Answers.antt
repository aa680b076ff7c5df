use Rattle.report_pages.proofs.PrintedLemmas.{on_err}
use Rattle.session_tape.proofs.EndLemmas.{ended_early, ended_short}
use Rattle.session_tape.proofs.tape.end.Goals as goal

pub returns-in_err-ended-clause-front : goal.returns-in_err-ended-clause-front
returns-in_err-ended-clause-front g c =
    on_err c.from_residual.result _
    (λ told sources window walked. ended_early c.args.resolution window sources told (g.S.Sink.told c.args.out.now) c.args.page.now c.args.ending walked)

pub returns-in_err-flush-clause-front : goal.returns-in_err-flush-clause-front
returns-in_err-flush-clause-front g c =
    on_err c.from_residual-in_err-flush.result _
    (λ told sources window walked.
    ended_short c.args.resolution window sources told (g.S.Sink.told c.args.out.now) (g.S.Sink.told c.flush.new.out) c.args.page.now c.append_last.new.page c.args.ending c.in_ok-ended.ended walked
    c.in_ok-ended.ensures.last c.in_err-flush.ensures.front)
