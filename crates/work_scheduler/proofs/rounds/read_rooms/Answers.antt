-- The room of one turn more was read.
use Rattle.std.proofs.Common.{◌<◌, length, refl, ◌∙◌, arith}
use Rattle.work_scheduler.proofs.PlacingLemmas.{zip-still, zip-then, zip-set, sent-set}
use Rattle.work_scheduler.proofs.rounds.read_rooms.Goals as goal

pub loop-place-init : goal.loop-place-init
loop-place-init g c = record {
  ran = zip-still c.args.turns.now;
  sent = refl;
  read = c.requires.empty;
  capacity = refl;
}

pub loop-place-preserved : goal.loop-place-preserved
loop-place-preserved g c =
    let turns = c.loop-place.turns in
    let place = c.loop-place.place in
    let within : place < length turns = omega (arith, c.loop-place-test.true, c.loop-place.auto.turns) in
    record {
      ran = zip-then _ _ _ c.loop-place.invariant.ran (zip-set turns place c.index-turns-place.result _ within (refl, c.room-room.ensures.ran));
      sent = sent-set turns place c.index-turns-place.result _ within c.room-room.ensures.sent ∙ c.loop-place.invariant.sent;
      read = omega (arith, c.push_reserved.ensures.len, c.loop-place.invariant.read);
      capacity = c.push_reserved.ensures.capacity ∙ c.loop-place.invariant.capacity;
    }
