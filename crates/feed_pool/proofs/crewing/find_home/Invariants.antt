use Rattle.std.proofs.Common.{◌≡◌}
use Rattle.std.specs.Prelude.{vec_len}
use Rattle.feed_pool.specs.Crews.{show_all}
use Rattle.feed_pool.proofs.crewing.find_home.Given as goal

abbrev pub invariant-loop-i : goal.invariant-loop-i
invariant-loop-i g l = record {
  same : show_all l.seats.items ≡ show_all l.fn.seats.items;
  count : vec_len l.seats ≡ vec_len l.fn.seats;
}
