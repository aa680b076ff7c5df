use Rattle.std.proofs.Common.{◌<◌, length, None, arith}
use Rattle.std.proofs.lemmas.List.{get_or_read}
use Rattle.feed_pool.proofs.CrewLemmas.{same-at}
use Rattle.feed_pool.proofs.crewing.is_home_at.Goals as goal

pub returns-clause-same : goal.returns-clause-same
returns-clause-same g c =
    let seats = c.args.seats.now.items in
    let within : c.args.place < length seats = omega (arith, c.args.seats.now.ok.0, c.if-place-len.false, c.len.ensures) in
    same-at seats c.args.place c.index_mut.result.now c.is_home.new.slot (get_or_read seats c.args.place c.index_mut.result.now within c.index_mut.ensures.value None) c.is_home.ensures
