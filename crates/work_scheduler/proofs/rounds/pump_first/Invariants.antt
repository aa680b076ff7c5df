use Rattle.std.proofs.Common.{◌≡◌, take}
use Rattle.std.specs.List.{All, AllZip}
use Rattle.work_scheduler.specs.Placings.{all_sent, PlacedOn, IsStuck}
use Rattle.work_scheduler.proofs.rounds.pump_first.Given as goal

abbrev pub invariant-loop-place : goal.invariant-loop-place
invariant-loop-place g l = record {
  ran : AllZip PlacedOn l.fn.turns l.turns;
  sent : all_sent l.turns ≡ all_sent l.fn.turns;
  stuck : All IsStuck (take l.place l.turns);
}
