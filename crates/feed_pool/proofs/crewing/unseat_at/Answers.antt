use Rattle.std.proofs.Common.{◌<◌, length, None, arith}
use Rattle.std.proofs.lemmas.List.{get_or_read}
use Rattle.feed_pool.proofs.CrewLemmas.{collected-at}
use Rattle.feed_pool.proofs.crewing.unseat_at.Goals as goal

pub returns-clause-collected : goal.returns-clause-collected
returns-clause-collected g c =
    let seats = c.args.seats.now.items in
    let within : c.args.place < length seats = omega (arith, c.args.seats.now.ok.0, c.if-place-len.false, c.len.ensures) in
    collected-at seats c.args.place c.index_mut.result.now c.unseat.new.slot c.unseat.result within
    (get_or_read seats c.args.place c.index_mut.result.now within c.index_mut.ensures.value None) c.unseat.ensures
