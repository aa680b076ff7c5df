use Rattle.std.proofs.Common.{◌≡◌, ℕ, ◌<◌, ◌≤◌, get_or}
use Rattle.std.specs.Prelude.{MatchOption, length}
use Rattle.work_scheduler.proofs.picking.pick.Given as goal

abbrev pub invariant-loop-place : goal.invariant-loop-place
invariant-loop-place l = record {
  least : (k : ℕ) → k < l.place → get_or l.rooms k 0 ≤ l.most;
  found : MatchOption l.found (l.most ≡ 0) (λ place. (place < l.place) × (place < length l.rooms) × (0 < l.most) × (get_or l.rooms place 0 ≡ l.most) × ((k : ℕ) → k < place → get_or l.rooms k 0 < l.most));
}
