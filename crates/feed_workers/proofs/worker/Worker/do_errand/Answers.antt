-- What an errand brought is there, and what it let go went home.
use Rattle.std.proofs.Common.{vec_len, arith}
use Rattle.feed_queue.specs.Lanes.{taken_of}
use Rattle.feed_workers.proofs.ErrandLemmas.{took-one, left-one}
use Rattle.feed_workers.proofs.worker.Worker.do_errand.Goals as goal

pub invariant_of-self-clause-none_lost : goal.invariant_of-self-clause-none_lost
invariant_of-self-clause-none_lost g c =
    let it = c.in-Some-Take in
    took-one (taken_of c.args.self.now.errands) (taken_of c.pop.new.self) it.field-0 it.feed it.away
    (vec_len c.args.self.now.turns) (vec_len c.push_reserved.new.self) it.field-0-is it.ensures.taken c.push_reserved.ensures.len c.args.self.now.none_lost

pub invariant_of-self-in-Some-clause-none_lost : goal.invariant_of-self-in-Some-clause-none_lost
invariant_of-self-in-Some-clause-none_lost g c =
    let it = c.in-Some-Leave in
    left-one (taken_of c.args.self.now.errands) (taken_of c.pop.new.self) it.field-0 it.feed
    (vec_len c.args.self.now.turns) (vec_len c.remove.new.self) it.field-0-is it.ensures.taken (omega (arith, c.remove.ensures.len)) c.args.self.now.none_lost

pub invariant_of-self-in-None-place_of-clause-none_lost : goal.invariant_of-self-in-None-place_of-clause-none_lost
invariant_of-self-in-None-place_of-clause-none_lost g c =
    let it = c.in-Some-Leave in
    left-one (taken_of c.args.self.now.errands) (taken_of c.pop.new.self) it.field-0 it.feed
    (vec_len c.args.self.now.turns) (vec_len c.args.self.now.turns) it.field-0-is it.ensures.taken (omega arith) c.args.self.now.none_lost
