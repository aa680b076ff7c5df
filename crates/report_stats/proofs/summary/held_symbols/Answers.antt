use Rattle.std.proofs.Common.{rules, ap, sym, ◌∙◌}
use Rattle.clock_book.specs.Books.{price_marks}
use Rattle.clock_run.specs.Summary.{is_held}
use Rattle.report_stats.proofs.HoldingLemmas.{keys-held, keys-passed}
use Rattle.report_stats.proofs.summary.held_symbols.Goals as goal
use Rattle.report_stats.proofs.summary.held_symbols.Goals.{then-is_held+in_ok-insert, else-is_held}

pub loop-fill-preserved : goal.loop-fill-preserved
loop-fill-preserved c = λ b stands.
    let test = c.is_held.ensures b.start b.fills (price_marks b) (c.portfolio.ensures.stands b stands) in (
      (c.loop-fill.invariant b stands).0,
      elim c.if-is_held.branch [
        | then-is_held+in_ok-insert w ↦
            keys-held (is_held b) (λ fill. fill.symbol) c.fills-fill-items.result.now c.loop-fill.fill-index c.fill-item.result c.loop-fill.held.keys _
            (search (rules, c.loop-fill-test.true, c.loop-fill.auto.fill-index-end)) c.fill-item.is (c.loop-fill.invariant b stands).1 (sym test ∙ w.if-is_held.true) (ap (λ s. s.keys) w.held-is ∙ w.in_ok-insert.ensures.keys)
        | else-is_held w ↦
            keys-passed (is_held b) (λ fill. fill.symbol) c.fills-fill-items.result.now c.loop-fill.fill-index c.fill-item.result c.loop-fill.held.keys _
            (search (rules, c.loop-fill-test.true, c.loop-fill.auto.fill-index-end)) c.fill-item.is (c.loop-fill.invariant b stands).1 (sym test ∙ w.if-is_held.false) (ap (λ s. s.keys) w.held-is)
      ],
    )
