use Rattle.bar_windows.proofs.EachWindow.{longest_more, longest_all}
use Rattle.bar_windows.proofs.all.longest.Goals as goal

pub loop-spec-preserved : goal.loop-spec-preserved
loop-spec-preserved c =
    longest_more c.args.specs.now c.loop-spec.spec-index _ c.loop-spec.most c.reach.result c.max-most.result c.loop-spec-test.true c.loop-spec.invariant c.reach.ensures c.max-most.ensures

pub returns : goal.returns
returns c = longest_all c.args.specs.now c.loop-spec.spec-index c.loop-spec.most c.loop-spec-test.false c.loop-spec.invariant
