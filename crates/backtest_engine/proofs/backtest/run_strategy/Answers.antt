-- What was taken follows the lists and what was heard is the book's, now that the pool and the desk are finished.
use Rattle.std.proofs.Common.{[], ◌∙◌}
use Rattle.order_desk.proofs.ReplyLemmas.{right-now}
use Rattle.clock_book.specs.Handled.{after}
use Rattle.order_book.specs.Stands.{StandsFor}
use Rattle.backtest_engine.specs.Stands.{HasFaulted}
use Rattle.backtest_engine.proofs.StartLemmas.{if-whole, fault-has, exact-end}
use Rattle.backtest_engine.proofs.backtest.run_strategy.Goals as goal

pub returns-clause-told : goal.returns-clause-told
returns-clause-told g c before lists m s b stand is are desk core op met =
    let (ds, more, goes, says) = c.start-walked.ensures.walked in
    let (now, st, fault, is_end) = says before stand in
    let follow = c.finish.ensures.follow before now st lists (c.start-walked.ensures.stays.keyed ∙ is) in
    let served = goes b [] [] desk in
    let right = right-now b ds more (c.finish-book.ensures.front b ds more served) in
    let (walked, exact) = is_end lists m s b are follow right desk core op met in
    let kept = if-whole (StandsFor c.finish-book.result (after b ds)) _ c.start-walked.result c.start-walked.ensures.fed (λ fed. (c.finish-book.ensures.whole fed b ds more served).1) in
    (now, follow, c.end.ensures.told m lists c.args.first c.args.last s c.args.coarse now (after b ds) (g.S.Sink.told c.args.out.now) walked kept)

pub returns-clause-exact : goal.returns-clause-exact
returns-clause-exact g c before lists m s b stand is are desk core op met =
    let (ds, more, goes, says) = c.start-walked.ensures.walked in
    let (now, st, fault, is_end) = says before stand in
    let follow = c.finish.ensures.follow before now st lists (c.start-walked.ensures.stays.keyed ∙ is) in
    let served = goes b [] [] desk in
    let right = right-now b ds more (c.finish-book.ensures.front b ds more served) in
    let (walked, exact) = is_end lists m s b are follow right desk core op met in
    let kept = if-whole (StandsFor c.finish-book.result (after b ds)) _ c.start-walked.result c.start-walked.ensures.fed (λ fed. (c.finish-book.ensures.whole fed b ds more served).1) in (
      now,
      follow,
      c.end.ensures.told m lists c.args.first c.args.last s c.args.coarse now (after b ds) (g.S.Sink.told c.args.out.now) walked kept,
      exact-end m lists c.args.first c.args.last s c.args.coarse now c.start-walked.result c.end.result c.end.ensures.ends exact,
    )

pub returns-clause-read : goal.returns-clause-read
returns-clause-read g c before stand is =
    let (ds, more, goes, says) = c.start-walked.ensures.walked in
    let (now, st, fault, is_end) = says before stand in
    let (n, taken, at, has) = fault-has (HasFaulted now) c.start-walked.result (c.end.ensures.fault is) fault in
    c.finish.ensures.rose before now st n taken at has
