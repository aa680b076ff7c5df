use Rattle.std.proofs.Common.{get_or, ◌+◌, ◌<◌, length, drop, sym, ◌∙◌, ap, subst}
use Rattle.lean_items.specs.declared.feed_no.FeedNo.{FeedNo}
use Rattle.frontier_sync.specs.Heads.{AreOpen}
use Rattle.frontier_sync.proofs.TakenLemmas.{stays-more}
use Rattle.backtest_engine.specs.Opened.{without_heads}
use Rattle.backtest_engine.proofs.FeedLemmas.{drop-next, open-without}
use Rattle.backtest_engine.proofs.feeds.remove_all.Goals as goal

pub removed-preserved : goal.removed-preserved
removed-preserved g c =
    let P = g.P.Pool in
    let inv = c.removed.invariant in
    let place = c.removed.place in
    let removed = c.args.removed.now in
    let feed : FeedNo = get_or removed place (record { 0 = 0 }) in
    let within : place < length removed = c.removed-test.true in
    let dropped = drop-next removed place (record { 0 = 0 }) within in
    record {
      opened = subst (λ hs. AreOpen (P.is_open c.remove.new.self) hs) (sym c.forget.ensures)
          (open-without (P.is_open c.removed.pool) (P.is_open c.remove.new.self) feed.0 c.removed.heads inv.opened c.remove.ensures.opened);
      heads = ap (λ hs. without_heads hs (drop (place + 1) removed)) c.forget.ensures ∙ sym (ap (without_heads c.removed.heads) dropped) ∙ inv.heads;
      added = c.remove.ensures.added ∙ inv.added;
      stands = λ before feeds h. c.remove.ensures.stands before feeds (inv.stands before feeds h);
      stays = stays-more P.files P.lists P.faults P.place c.args.pool.now c.removed.pool c.remove.new.self inv.stays
          (record { told = c.remove.ensures.files; keyed = c.remove.ensures.lists; grows = c.remove.ensures.grows; placed = c.remove.ensures.place });
    }
