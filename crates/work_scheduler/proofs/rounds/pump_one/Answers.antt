-- The rooms were read, and then one turn was pumped, or one after another.
use Rattle.std.proofs.Common.{◌≡◌, ◌<◌, length, arith}
use Rattle.std.proofs.lemmas.List.Elements.{length_all_zip}
use Rattle.work_scheduler.specs.Picked.{IsPick}
use Rattle.work_scheduler.specs.Placings.{PlacedOn}
use Rattle.work_scheduler.proofs.PlacingLemmas.{zip-then, pumped-then, answer-then}
use Rattle.work_scheduler.proofs.rounds.pump_one.Goals as goal

pub returns-in-Some-clause-ran : goal.returns-in-Some-clause-ran
returns-in-Some-clause-ran g c = zip-then _ _ _ c.read_rooms.ensures.ran c.pump_at.ensures.ran

pub returns-in-Some-clause-pumped : goal.returns-in-Some-clause-pumped
returns-in-Some-clause-pumped g c =
    let picked : IsPick c.as_slice.result.now c.in-Some.place = c.in-Some.ensures in
    let long : length c.args.turns.now ≡ length c.read_rooms.new.turns = length_all_zip PlacedOn c.args.turns.now c.read_rooms.new.turns c.read_rooms.ensures.ran in
    let within : c.in-Some.place < length c.read_rooms.new.turns = omega (arith, picked.within, c.as_slice.ensures.len, c.read_rooms.ensures.read, long) in
    pumped-then _ _ _ c.pump_at.result c.read_rooms.ensures.ran c.read_rooms.ensures.sent (c.in-Some.place, within, c.pump_at.ensures.sent)

pub returns-in-None-clause-ran : goal.returns-in-None-clause-ran
returns-in-None-clause-ran g c = zip-then _ _ _ c.read_rooms.ensures.ran c.pump_first.ensures.ran

pub returns-in-None-clause-pumped : goal.returns-in-None-clause-pumped
returns-in-None-clause-pumped g c = answer-then _ _ _ c.pump_first.result c.read_rooms.ensures.ran c.read_rooms.ensures.sent c.pump_first.ensures.pumped
