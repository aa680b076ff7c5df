-- The bar of a bucket so far, with one bar more.
use Rattle.std.specs.Prelude.{◌||◌}
use Rattle.lean_items.specs.declared.bar.Bar.{Bar}
use Rattle.consolidators.specs.Buckets.{greater, lesser, total}

abbrev pub joined : Bar → Bar → Bar
joined so_far bar = record so_far {
  high = greater so_far.high bar.high;
  low = lesser so_far.low bar.low;
  closing = bar.closing;
  volume = total so_far.volume bar.volume;
  real = so_far.real || bar.real;
}
