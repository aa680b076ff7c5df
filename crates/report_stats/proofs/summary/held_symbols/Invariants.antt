use Rattle.std.proofs.Common.{◌≡◌, take}
use Rattle.clock_book.specs.Books as clock
use Rattle.order_book.specs.Stands as kept
use Rattle.clock_run.specs.Summary.{is_held}
use Rattle.report_stats.proofs.HoldingLemmas.{passing}
use Rattle.report_stats.proofs.summary.held_symbols.Given as goal

abbrev pub invariant-loop-fill : goal.invariant-loop-fill
invariant-loop-fill l = (b : clock.Book) → kept.StandsFor l.fn.book b
    → (l.fill-items ≡ b.fills) × (l.held.keys ≡ passing (is_held b) (λ fill. fill.symbol) (take l.fill-index l.fill-items))
