use Rattle.std.proofs.Common.{arith}
use Rattle.std.proofs.lemmas.Int.{ints}
use Rattle.fill_forward.proofs.AgainLemmas.{next_end_is}
use Rattle.fill_forward.proofs.again.next_end.Goals as goal

pub returns : goal.returns
returns c =
    let h = c.args.hours.now in
    let r = c.args.resolution in
    next_end_is h r c.args.after.0 _ c.args.before.0 c.grid_next.result (c.grid_ends.ensures.tested h r c.sessions_lie.ensures) (c.grid_ends.ensures.not_told h r) (omega (arith, ints)) c.grid_next.ensures
