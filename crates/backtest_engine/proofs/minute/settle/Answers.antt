use Rattle.std.proofs.Common.{◌<◌, subst, sym, ◌∙◌, ap}
use Rattle.report_pages.specs.Printed.{IsFront}
use Rattle.report_pages.proofs.PrintedLemmas.{IsFront-take}
use Rattle.backtest_engine.specs.Opened.{AreNumbered, without_heads, Opened}
use Rattle.backtest_engine.proofs.FeedLemmas.{all-without}
use Rattle.backtest_engine.proofs.MinuteLemmas.{stock-without}
use Rattle.backtest_engine.proofs.minute.settle.Goals as goal

pub returns-in-Err-clause-wrote : goal.returns-in-Err-clause-wrote
returns-in-Err-clause-wrote g c =
    let told0 = g.S.Sink.told c.args.out.now in
    let told = g.S.Sink.told c.write_whole.new.sink in
    subst (λ xs. IsFront told0 told xs) c.text.ensures (IsFront-take told0 told c.text.result.now c.in-Err.ensures.err)

pub add_all-requires-clause-numbered : goal.add_all-requires-clause-numbered
add_all-requires-clause-numbered g c =
    let count = g.P.Pool.added c.args.pool.now in
    subst (λ n. AreNumbered n c.remove_all.new.heads) (sym c.remove_all.ensures.added)
    (subst (λ hs. AreNumbered count hs) (sym c.remove_all.ensures.heads) (all-without (λ a. a.feed.0 < count) c.args.heads.now c.deref.result.now c.requires.numbered))

pub returns-in-Ok-add_all-clause-stands : goal.returns-in-Ok-add_all-clause-stands
returns-in-Ok-add_all-clause-stands g c before feeds stock =
    let P = g.P.Pool in
    let mid = stock-without (P.stands c.args.pool.now) (P.stands c.remove_all.new.pool) before (P.added c.args.pool.now) (P.added c.remove_all.new.pool) c.args.heads.now c.remove_all.new.heads c.args.keys.now.items feeds
    c.deref.result.now stock c.remove_all.ensures.added c.remove_all.ensures.heads c.remove_all.ensures.stands in
    let (now, stand, earlier, opened) = c.in-Ok-add_all.ensures.stands before feeds mid in (
      now,
      stand,
      earlier,
      subst (λ n. Opened (P.stands c.add_all.new.pool) before n (P.added c.add_all.new.pool) feeds now (without_heads c.args.heads.now c.args.changes.now.removed.items) c.add_all.new.heads c.add_all.new.keys.items c.args.changes.now.added.items) c.remove_all.ensures.added
          (subst (λ hs. Opened (P.stands c.add_all.new.pool) before (P.added c.remove_all.new.pool) (P.added c.add_all.new.pool) feeds now hs c.add_all.new.heads c.add_all.new.keys.items c.args.changes.now.added.items)
          (c.remove_all.ensures.heads ∙ ap (without_heads c.args.heads.now) c.deref.ensures.value)
          (subst (λ ks. Opened (P.stands c.add_all.new.pool) before (P.added c.remove_all.new.pool) (P.added c.add_all.new.pool) feeds now c.remove_all.new.heads c.add_all.new.heads c.add_all.new.keys.items ks) c.deref-2.ensures.value opened)),
    )

pub returns-in-Err-add_all-clause-stands : goal.returns-in-Err-add_all-clause-stands
returns-in-Err-add_all-clause-stands g c before feeds stock =
    let P = g.P.Pool in
    let mid = stock-without (P.stands c.args.pool.now) (P.stands c.remove_all.new.pool) before (P.added c.args.pool.now) (P.added c.remove_all.new.pool) c.args.heads.now c.remove_all.new.heads c.args.keys.now.items feeds
    c.deref.result.now stock c.remove_all.ensures.added c.remove_all.ensures.heads c.remove_all.ensures.stands in
    let (now, stand, earlier, opened) = c.in-Err-add_all.ensures.stands before feeds mid in
    (now, stand, earlier, tt)
