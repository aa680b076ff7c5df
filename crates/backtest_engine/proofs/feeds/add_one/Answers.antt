use Rattle.std.proofs.Common.{◌≡◌, ◌+◌, ◌++◌, ◌∷◌, [], ◌∙◌, arith}
use Rattle.report_pages.proofs.PrintedLemmas.{on_ok}
use Rattle.backtest_engine.proofs.FeedLemmas.{opened, opened-one, extends-opened, extends-earlier}
use Rattle.backtest_engine.proofs.feeds.add_one.Goals as goal

pub returns-in-Ok-keep-clause-stands : goal.returns-in-Ok-keep-clause-stands
returns-in-Ok-keep-clause-stands g c before feeds stock =
    let P = g.P.Pool in
    let key = c.args.key.now in
    let feed = c.in-Ok.feed in
    let item = c.first_head-item.result in
    let number : feed.0 ≡ P.added c.args.pool.now = c.in-Ok.ensures.number in
    let more : P.added c.first_head-item.new.pool ≡ P.added c.args.pool.now + 1 = c.first_head-item.ensures.added ∙ c.in-Ok.ensures.added in
    let (passed, none, takes) = c.first_head-item.ensures.took in
    let one = opened-one (P.stands c.args.pool.now) (P.stands c.add.new.self) (P.stands c.first_head-item.new.pool) before (P.added c.args.pool.now) (P.added c.first_head-item.new.pool)
    c.args.heads.now c.keep.new.heads c.args.keys.now.items c.keep.new.keys.items feeds key feed passed item stock number more c.requires.kept
    c.in-Ok-keep.ensures.heads c.in-Ok-keep.ensures.keys (λ b f h. c.in-Ok.ensures.stands b f h) takes none c.first_head-item.ensures.fits in (
      opened feeds key feed (passed ++ item ∷ []),
      one.stock.stand,
      extends-earlier feeds (opened feeds key feed (passed ++ item ∷ [])) (extends-opened feeds key feed (passed ++ item ∷ []) (stock.beyond feed.0 (omega (arith, number)))),
      on_ok c.named.result _ one,
    )

pub returns-in-Err-keep-clause-stands : goal.returns-in-Err-keep-clause-stands
returns-in-Err-keep-clause-stands g c before feeds stock =
    let key = c.args.key.now in
    let feed = c.in-Ok.feed in
    let number : feed.0 ≡ g.P.Pool.added c.args.pool.now = c.in-Ok.ensures.number in
    let (passed, none, takes) = c.first_head-item.ensures.took in
    let items = passed ++ c.first_head-item.result ∷ [] in (
      opened feeds key feed items,
      takes before _ (c.in-Ok.ensures.stands before feeds stock.stand),
      extends-earlier feeds (opened feeds key feed items) (extends-opened feeds key feed items (stock.beyond feed.0 (omega (arith, number)))),
      tt,
    )
