use Rattle.std.proofs.Common.{refl, subst, sym}
use Rattle.feed_queue.specs.Lanes.{sent_of, taken_of, left_of}
use Rattle.feed_workers.specs.Errands.{IsNoneLost}
use Rattle.feed_workers.proofs.ErrandLemmas.{none-missed}
use Rattle.feed_workers.proofs.worker.Worker.disband.Goals as goal

pub returns : goal.returns
returns g c =
    let worker = c.args.self in
    none-missed (sent_of c.args.errands) (taken_of worker.errands) (left_of c.settle.result.rest) c.let_go-here.result c.let_rest_go.result _
    c.settle.ensures.rest (subst (λ n. IsNoneLost (taken_of worker.errands) n) (sym c.let_go-here.ensures) worker.none_lost) c.let_rest_go.ensures.went refl
