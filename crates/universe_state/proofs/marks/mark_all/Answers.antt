use Rattle.std.proofs.Common.{◌<◌, ◌≤◌, length, ◌∙◌, arith}
use Rattle.universe_state.proofs.Marking.{marked_more, marked_all}
use Rattle.universe_state.proofs.marks.mark_all.Goals as goal

pub loop-i-preserved : goal.loop-i-preserved
loop-i-preserved c =
    let within : c.loop-i.i < length c.args.members.now.entries = omega (arith, c.loop-i-test.true, c.len-i-end.ensures) in (
      marked_more c.args.symbols.now c.loop-i.i c.args.members.now.entries c.loop-i.members.entries c.mark_at.new.members.entries within c.loop-i.invariant.0 c.mark_at.ensures.marked,
      c.mark_at.ensures.len ∙ c.loop-i.invariant.1,
    )

pub returns : goal.returns
returns c =
    let end : length c.args.members.now.entries ≤ c.loop-i.i = omega (arith, c.loop-i-test.false, c.len-i-end.ensures) in
    marked_all c.args.symbols.now c.loop-i.i c.args.members.now.entries c.loop-i.members.entries end c.loop-i.invariant.0
