-- The days that are passed have no session.
use Rattle.std.proofs.Common.{◌≡◌, ◌<◌, ◌≤◌, ℕ, false}
use Rattle.feed_paths.specs.Files.{has_session}
use Rattle.feed_paths.proofs.files.next_session.Given as goal

abbrev pub invariant-loop-day : goal.invariant-loop-day
invariant-loop-day l = (day : ℕ) → l.from ≤ day → day < l.day → has_session l.hours day ≡ false
