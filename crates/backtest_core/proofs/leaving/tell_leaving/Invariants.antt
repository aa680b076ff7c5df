use Rattle.std.proofs.Common.{◌≡◌, ◌++◌, drop, map, unsigned_abs}
use Rattle.clock_book.specs.Seen.{Seen}
use Rattle.backtest_core.specs.Mirror.{Sees}
use Rattle.backtest_core.specs.Leaving.{leaving_of, lines_of}
use Rattle.backtest_core.specs.Text.{lines_bytes}
use Rattle.backtest_core.proofs.leaving.tell_leaving.Given as goal

abbrev pub invariant-loop-security : goal.invariant-loop-security
invariant-loop-security l =
    ((seen : Seen) → Sees l.mirror seen → map (λ w. w.feed) (leaving_of seen l.watched) ≡ l.feeds.items ++ map (λ w. w.feed) (leaving_of seen (drop l.security-index l.watched)))
    × ((seen : Seen) → Sees l.mirror seen
    → l.fn.text.items ++ lines_bytes (lines_of (unsigned_abs l.at.0) (leaving_of seen l.watched))
    ≡ l.text.items ++ lines_bytes (lines_of (unsigned_abs l.at.0) (leaving_of seen (drop l.security-index l.watched))))
