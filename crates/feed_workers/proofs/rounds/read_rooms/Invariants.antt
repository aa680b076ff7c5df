use Rattle.std.proofs.Common.{◌≡◌, length, vec_len, vec_capacity}
use Rattle.feed_workers.proofs.rounds.read_rooms.Given as goal

abbrev pub invariant-loop-place : goal.invariant-loop-place
invariant-loop-place g l = record {
  long : length l.turns ≡ length l.fn.turns;
  read : vec_len l.rooms ≡ l.place;
  capacity : vec_capacity l.rooms ≡ vec_capacity l.fn.rooms;
}
