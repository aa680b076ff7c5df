use Rattle.std.proofs.Common.{◌≡◌, vec_len, vec_capacity}
use Rattle.std.specs.List.{AllZip}
use Rattle.work_scheduler.specs.Placings.{all_sent, PlacedOn}
use Rattle.work_scheduler.proofs.rounds.read_rooms.Given as goal

abbrev pub invariant-loop-place : goal.invariant-loop-place
invariant-loop-place g l = record {
  ran : AllZip PlacedOn l.fn.turns l.turns;
  sent : all_sent l.turns ≡ all_sent l.fn.turns;
  read : vec_len l.rooms ≡ l.place;
  capacity : vec_capacity l.rooms ≡ vec_capacity l.fn.rooms;
}
