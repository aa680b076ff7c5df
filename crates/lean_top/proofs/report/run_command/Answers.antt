-- The daily tape is the report of its words, and a demo leaves the folder as it is.
use Rattle.std.proofs.Common.{ap, refl, arith}
use Rattle.lean_top.specs.Asked.{asked_by}
use Rattle.lean_top.proofs.TapeLemmas.{daily_asked}
use Rattle.lean_top.proofs.report.run_command.Goals as goal

pub returns-in-DailyTape-clause-reported : goal.returns-in-DailyTape-clause-reported
returns-in-DailyTape-clause-reported g c =
    λ f told. daily_asked f (asked_by c.args.command.now) c.in-DailyTape.symbols.items c.deref.result.now (g.S.Sink.told c.args.out.now) (g.S.Sink.told c.daily_tape.new.out) c.daily_tape.result
    (ap asked_by c.in-DailyTape.is) c.deref.ensures.value (c.daily_tape.ensures.reported f told)

pub returns-in-Demo-clause-went : goal.returns-in-Demo-clause-went
returns-in-Demo-clause-went g c = record {
  cause = c.demo.ensures.cause (g.F.Folder.faults c.args.folder.now) (g.F.Folder.faults c.args.folder.now);
  back = refl;
  kept = refl;
  folder_grows = omega arith;
  sink_grows = c.demo.ensures.grows;
}
