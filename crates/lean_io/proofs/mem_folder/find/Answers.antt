use Rattle.std.proofs.Common.{◌∙◌, sym}
use Rattle.lean_io.proofs.Entries.{path-found, files-found, files-passed}
use Rattle.lean_io.proofs.mem_folder.find.Goals as goal

pub returns-then-eq-clause-path : goal.returns-then-eq-clause-path
returns-then-eq-clause-path c =
    path-found c.args.entries.now c.args.path.now c.loop-i.i c.index-entries-i.result c.loop-i-test.true
    (rw c.as_str.ensures.value at (sym c.eq.ensures ∙ c.if-eq.true))

pub returns-then-eq-clause-bytes : goal.returns-then-eq-clause-bytes
returns-then-eq-clause-bytes c =
    files-found c.args.entries.now c.args.path.now c.loop-i.i c.index-entries-i.result c.loop-i-test.true c.loop-i.invariant
    (rw c.as_str.ensures.value at (sym c.eq.ensures ∙ c.if-eq.true))

pub loop-i-preserved : goal.loop-i-preserved
loop-i-preserved c =
    files-passed c.args.entries.now c.args.path.now c.loop-i.i c.index-entries-i.result c.loop-i-test.true c.loop-i.invariant
    (rw c.as_str.ensures.value at (sym c.eq.ensures ∙ c.if-eq.false))
