use Rattle.std.proofs.Common.{◌∙◌, ap, not}
use Rattle.universe_rules.proofs.FirstRows.{ranks_more, seen_more}
use Rattle.universe_rules.proofs.ranks.ranks_of.Goals as goal

pub loop-row-preserved : goal.loop-row-preserved
loop-row-preserved c = (
  ranks_more c.args.rule.now c.args.rows.now c.loop-row.row-index c.row-item.result c.in_ok-first.first c.loop-row.ranks.items c.add_rank.new.ranks.items
      c.loop-row-test.true c.row-item.is (c.in_ok-first.ensures.added ∙ ap not (c.loop-row.invariant.1 c.row-item.result.symbol)) c.loop-row.invariant.0 c.in_ok-add_rank.ensures,
  λ q. seen_more c.args.rows.now c.loop-row.row-index c.row-item.result q _ _ c.loop-row-test.true c.row-item.is (c.loop-row.invariant.1 q) (c.in_ok-first.ensures.updates.0 q),
)
