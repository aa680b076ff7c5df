-- Counts of faults, reads and writes.
pub use Rattle.lean_fixed.specs.Counts.{raised}
