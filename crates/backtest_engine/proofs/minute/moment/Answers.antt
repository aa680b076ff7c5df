use Rattle.std.proofs.Common.{◌≡◌, ◌+◌, pos, true, false, [], ◌++◌, refl, sym, ◌∙◌, subst}
use Rattle.std.specs.Prelude.{find}
use Rattle.lean_items.specs.declared.arrival.Arrival.{Arrival}
use Rattle.clock_book.specs.Handled.{after as book_after}
use Rattle.frontier_sync.specs.Heads.{stops}
use Rattle.frontier_sync.specs.Slices.{taken_all}
use Rattle.backtest_engine.specs.Opened.{AreNumbered}
use Rattle.backtest_engine.specs.Stands.{HasFaulted, Stock, broken}
use Rattle.backtest_engine.specs.Moved.{moment_at}
use Rattle.backtest_engine.proofs.GaveLemmas.{earlier-then, earlier-taken, later-sound}
use Rattle.backtest_engine.proofs.PhaseLemmas.{goes-none}
use Rattle.backtest_engine.proofs.MinuteLemmas.{numbered-next, stock-taken, broken-failed, not-true, not-false, faulted-of, front-nothing, settled-fault, halted-fault, on-ok-map, slice-step, halted-moved, settled-moved}
use Rattle.backtest_engine.proofs.minute.moment.Goals as goal

pub returns-in-Ok-false-clause-moved : goal.returns-in-Ok-false-clause-moved
returns-in-Ok-false-clause-moved g c =
    let P = g.P.Pool in
    let (taken, moves, (sliced, slice_is)) = c.in-Ok-false.ensures.took in
    let after = c.take_slice.new.heads in
    let is_broken : broken c.args.coarse (find (λ (a : Arrival). stops a.item) after) ≡ true
    = not-true (broken c.args.coarse (find (λ (a : Arrival). stops a.item) after)) (sym c.in-Ok-false.field-0-test ∙ c.in-Ok-false.ensures.whole) in (
      [],
      [],
      goes-none (g.D.Desk.stands c.args.desk.now),
      λ before feeds stock.
          (let now = taken_all feeds taken in
          let stock1 = stock-taken (P.stands c.args.pool.now) (P.stands c.take_slice.new.pool) before (P.added c.args.pool.now) c.args.heads.now after c.args.keys.now.items feeds c.args.at.0 taken stock moves sliced in
          let failed = broken-failed c.args.coarse after now stock1.taken is_broken in (
            now,
            stock1.stand,
            earlier-taken feeds taken,
            faulted-of c.args.coarse now failed,
            tt,
            λ lists m t s b cs rs are follow right is knows calm met. (refl, failed),
          )),
    )

pub returns-in-Err-clause-moved : goal.returns-in-Err-clause-moved
returns-in-Err-clause-moved g c =
    let (taken, moves, nothing) = c.in-Err.ensures.took in (
      [],
      [],
      goes-none (g.D.Desk.stands c.args.desk.now),
      λ before feeds stock. (
        taken_all feeds taken,
        moves before feeds stock.stand,
        earlier-taken feeds taken,
        tt,
        tt,
        λ lists m t s b cs rs are follow right is knows calm met. front-nothing (g.S.Sink.told c.args.out.now) (moment_at m lists c.args.coarse t s).lines,
      ),
    )

pub settle-requires-clause-numbered : goal.settle-requires-clause-numbered
settle-requires-clause-numbered g c =
    let (taken, moves, (sliced, slice_is)) = c.in-Ok-true.ensures.took in
    subst (λ n. AreNumbered n c.take_slice.new.heads) (sym c.take_slice.ensures.added)
    (numbered-next c.args.at.0 taken (g.P.Pool.added c.args.pool.now) c.args.heads.now c.take_slice.new.heads c.requires.numbered sliced)

pub returns-in-Ok-clause-moved : goal.returns-in-Ok-clause-moved
returns-in-Ok-clause-moved g c =
    let P = g.P.Pool in
    let S = g.C.Strategy in
    let (taken, moves, (sliced, slice_is)) = c.in-Ok-true.ensures.took in
    let (ds, more, goes, plays) = c.in-Ok.ensures.played in
    let after = c.take_slice.new.heads in
    let pool0 = c.args.pool.now in
    let pool1 = c.take_slice.new.pool in
    let pool2 = c.settle.new.pool in
    let core1 = c.play.new.core in
    let told0 = g.S.Sink.told c.args.out.now in
    let told = g.S.Sink.told c.settle.new.out in
    let ks = c.in-Ok.changes.added.items in
    let removed = c.in-Ok.changes.removed.items in
    let sound : broken c.args.coarse (find (λ (a : Arrival). stops a.item) after) ≡ false
    = not-false (broken c.args.coarse (find (λ (a : Arrival). stops a.item) after)) (sym c.in-Ok-true.field-0-test ∙ c.in-Ok-true.ensures.whole) in
    let given = c.deref.ensures.value ∙ slice_is in (
      ds,
      more,
      goes,
      λ before feeds stock.
          (let mid = taken_all feeds taken in
          let stock1 : Stock (P.stands pool1) before (P.added pool1) after c.args.keys.now.items mid
          = subst (λ n. Stock (P.stands pool1) before n after c.args.keys.now.items mid) (sym c.take_slice.ensures.added)
          (stock-taken (P.stands pool0) (P.stands pool1) before (P.added pool0) c.args.heads.now after c.args.keys.now.items feeds c.args.at.0 taken stock moves sliced) in
          let (now, stand, earlier, opened) = c.settle.ensures.stands before mid stock1 in (
            now,
            stand,
            earlier-then feeds mid now (earlier-taken feeds taken) earlier,
            settled-fault (HasFaulted now) (S.text core1) told0 told c.settle.result c.settle.ensures.wrote,
            on-ok-map _ _ c.settle.result (λ o. o.stock) opened,
            λ lists m t s b cs rs are follow right is knows calm met.
                (let step = slice-step lists are c.args.coarse c.args.at t feeds taken c.args.heads.now after c.deref.result.now (m.active s.own) is (earlier.0 lists follow) knows.at calm sliced c.in-Ok-true.ensures.rising sound given in
                let meets = subst (λ xs. S.meets m t xs s) (sym step.1) met in
                let played = plays m s t b cs rs is knows.core_is meets knows.desk_is knows.book right in
                settled-moved m lists c.args.coarse (S.stands core1 m) (S.stands c.settle.new.core m) (P.stands pool2) before (S.text core1) (P.added pool1) (P.added pool2) mid now after c.settle.new.heads c.deref.result.now c.settle.new.keys.items ks removed
                t s _ told0 told c.settle.result are follow step.1 (knows.added_is ∙ sym c.take_slice.ensures.added) step.0 played c.settle.ensures.wrote opened c.settle.ensures.added
                (on-ok-map _ _ c.settle.result (λ n z h e. n m z h e) c.settle.ensures.named) (later-sound mid now (pos (t + 1)) (m.active s.own) earlier.1 step.2)),
          )),
    )

pub returns-in-Err-play-clause-moved : goal.returns-in-Err-play-clause-moved
returns-in-Err-play-clause-moved g c =
    let P = g.P.Pool in
    let S = g.C.Strategy in
    let (taken, moves, (sliced, slice_is)) = c.in-Ok-true.ensures.took in
    let (ds, more, goes, plays) = c.in-Err-play.ensures.played in
    let after = c.take_slice.new.heads in
    let core1 = c.play.new.core in
    let told0 = g.S.Sink.told c.args.out.now in
    let told = g.S.Sink.told c.stopped.new.out in
    let stop = c.in-Err-play.stop in
    let sound : broken c.args.coarse (find (λ (a : Arrival). stops a.item) after) ≡ false
    = not-false (broken c.args.coarse (find (λ (a : Arrival). stops a.item) after)) (sym c.in-Ok-true.field-0-test ∙ c.in-Ok-true.ensures.whole) in
    let given = c.deref.ensures.value ∙ slice_is in (
      ds,
      more,
      goes,
      λ before feeds stock.
          (let now = taken_all feeds taken in (
            now,
            moves before feeds stock.stand,
            earlier-taken feeds taken,
            halted-fault (HasFaulted now) (S.text core1) stop told0 told c.stopped.result c.stopped.ensures.wrote,
            tt,
            λ lists m t s b cs rs are follow right is knows calm met.
                (let step = slice-step lists are c.args.coarse c.args.at t feeds taken c.args.heads.now after c.deref.result.now (m.active s.own) is follow knows.at calm sliced c.in-Ok-true.ensures.rising sound given in
                let meets = subst (λ xs. S.meets m t xs s) (sym step.1) met in
                let played = plays m s t b cs rs is knows.core_is meets knows.desk_is knows.book right in
                halted-moved m lists c.args.coarse (S.stands core1 m) (S.text core1) (P.added c.take_slice.new.pool) now after c.deref.result.now t s (book_after b (cs ++ ds)) told0 told stop c.stopped.result step.1 played c.stopped.ensures.wrote step.2),
          )),
    )
