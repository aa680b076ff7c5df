use Rattle.std.proofs.Common.{◌<◌, ◌≤◌, length, None, arith}
use Rattle.std.proofs.lemmas.List.{get_or_read}
use Rattle.feed_pool.proofs.CrewLemmas.{shut-at, shut-past}
use Rattle.feed_pool.proofs.crewing.shut_in_place.Goals as goal

pub returns-then-place-len-clause-shut : goal.returns-then-place-len-clause-shut
returns-then-place-len-clause-shut g c =
    let seats = c.args.seats.now.items in
    let past : length seats ≤ c.args.place = omega (arith, c.args.seats.now.ok.0, c.if-place-len.true, c.len.ensures) in
    shut-past seats c.args.place past

pub returns-clause-shut : goal.returns-clause-shut
returns-clause-shut g c =
    let seats = c.args.seats.now.items in
    let within : c.args.place < length seats = omega (arith, c.args.seats.now.ok.0, c.if-place-len.false, c.len.ensures) in
    shut-at seats c.args.place c.index_mut.result.now c.shut_slot.new.slot (get_or_read seats c.args.place c.index_mut.result.now within c.index_mut.ensures.value None) c.shut_slot.ensures
