-- One more item was taken of a feed.
use Rattle.std.proofs.Common.{◌<◌, length, None, arith}
use Rattle.std.proofs.lemmas.List.{get_or_read}
use Rattle.std.specs.Arc.{arc_value}
use Rattle.feed_pool.specs.Lists.{lists_of}
use Rattle.feed_pool.specs.Crews.{show_all}
use Rattle.feed_pool.proofs.CrewLemmas.{open-within, shows-length, opened-took, fewer-took, manned-took}
use Rattle.feed_pool.proofs.workers.PoolOverCrewPool.take.Goals as goal

pub returns-clause-opened : goal.returns-clause-opened
returns-clause-opened g c n =
    let seats = c.args.self.now.slots.seats.items in
    let within : c.args.feed.0 < length seats = omega (arith, open-within (show_all seats) c.args.feed.0 c.requires, shows-length seats) in
    opened-took seats c.args.feed.0 c.index_mut.result.now c.take_of.new.slot c.take_of.result within c.take_of.ensures n

pub returns-clause-fewer : goal.returns-clause-fewer
returns-clause-fewer g c =
    let seats = c.args.self.now.slots.seats.items in
    let within : c.args.feed.0 < length seats = omega (arith, open-within (show_all seats) c.args.feed.0 c.requires, shows-length seats) in
    fewer-took seats c.args.feed.0 c.index_mut.result.now c.take_of.new.slot c.take_of.result within
    (get_or_read seats c.args.feed.0 c.index_mut.result.now within c.index_mut.ensures.value None) c.take_of.ensures

pub returns-clause-stands : goal.returns-clause-stands
returns-clause-stands g c start feeds manned =
    let pool = c.args.self.now in
    let seats = pool.slots.seats.items in
    let within : c.args.feed.0 < length seats = omega (arith, open-within (show_all seats) c.args.feed.0 c.requires, shows-length seats) in
    manned-took (lists_of (g.F.Folder.files pool.folder.now) (arc_value pool.slots.hours) pool.slots.window) start
    (record { faults = g.F.Folder.faults pool.folder.now; hands = g.F.Folder.hands pool.folder.now }) seats feeds c.args.feed.0 c.index_mut.result.now c.take_of.new.slot c.take_of.result within
    (get_or_read seats c.args.feed.0 c.index_mut.result.now within c.index_mut.ensures.value None) c.take_of.ensures manned
