use Rattle.std.proofs.Common.{subst}
use Rattle.session_tape.specs.Session.{session_sources, session}
use Rattle.lean_top.specs.Outcome.{HasReported}
use Rattle.lean_top.specs.Report.{session_report_of, AreMinutesBy}
use Rattle.lean_top.proofs.session.tape_by.Goals as goal

pub returns-in-Ok-clause-reported : goal.returns-in-Ok-clause-reported
returns-in-Ok-clause-reported g c f told =
    subst (λ hours. HasReported (session_report_of c.args.resolution (session (session_sources f hours c.args.resolution c.args.window c.args.symbols.now) c.args.window))
    (AreMinutesBy (session_sources f hours c.args.resolution c.args.window c.args.symbols.now) c.args.window) (g.S.Sink.told c.args.out.now) (g.S.Sink.told c.tape_over.new.out) c.tape_over.result)
    c.in-Ok.ensures.ok (c.tape_over.ensures.reported f told)
