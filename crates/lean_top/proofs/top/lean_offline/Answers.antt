-- The clauses follow from what the run printed and from its causes.
use Rattle.std.specs.Prelude.{map, string_bytes}
use Rattle.lean_top.proofs.Running.{has_run}
use Rattle.lean_top.proofs.top.lean_offline.Goals as goal

pub returns : goal.returns
returns g c =
    rw (← c.deref.ensures.value)
    (has_run
    (record { files = g.F.Folder.files c.args.folder.now; told = g.S.Sink.told c.args.out.now; folder = g.F.Folder.faults c.args.folder.now; sink = g.S.Sink.faults c.args.out.now })
    (record { files = g.F.Folder.files c.run.new.folder; told = g.S.Sink.told c.run.new.out; folder = g.F.Folder.faults c.run.new.folder; sink = g.S.Sink.faults c.run.new.out })
    (map string_bytes c.deref.result.now) c.run.result
    c.run.ensures.reported c.run.ensures.refused c.run.ensures.taken c.run.ensures.went.cause c.run.ensures.went.kept c.run.ensures.went.folder_grows c.run.ensures.went.sink_grows)
