-- Bars in a line, for worked values.
use Rattle.std.specs.Prelude.{ℕ, ◌+◌, Bool, pos}
use Rattle.lean_items.specs.declared.bar.Bar.{Bar}

-- from one minute after 20131007 00:00 to another: opening, high, low, closing, volume, and whether it is real
abbrev pub sample : ℕ → ℕ → ℕ → ℕ → ℕ → ℕ → ℕ → Bool → Bar
sample start end opening high low closing volume real = record {
  start = record { 0 = pos (23018400 + start) };
  end = record { 0 = pos (23018400 + end) };
  opening = record { 0 = pos opening };
  high = record { 0 = pos high };
  low = record { 0 = pos low };
  closing = record { 0 = pos closing };
  volume = record { 0 = pos volume };
  real = real;
}
