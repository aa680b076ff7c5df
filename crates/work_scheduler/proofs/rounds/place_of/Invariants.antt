use Rattle.std.proofs.Common.{◌≡◌, [], take}
use Rattle.work_scheduler.specs.Placings.{numbered}
use Rattle.work_scheduler.proofs.rounds.place_of.Given as goal

abbrev pub invariant-loop-place : goal.invariant-loop-place
invariant-loop-place g l = numbered l.feed.0 (take l.place l.turns) ≡ []
