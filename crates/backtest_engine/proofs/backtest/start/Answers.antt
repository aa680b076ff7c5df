use Rattle.std.proofs.Common.{◌≡◌, ◌+◌, pos, true, false, inl, [], length, sym, ◌∙◌, ap, arith}
use Rattle.std.specs.Prelude.{find}
use Rattle.lean_items.specs.declared.arrival.Arrival.{Arrival}
use Rattle.lean_items.specs.Taken.{no_feeds}
use Rattle.frontier_sync.specs.Heads.{stops}
use Rattle.backtest_engine.specs.Reports.{whole}
use Rattle.backtest_engine.specs.Stands.{broken}
use Rattle.backtest_engine.specs.Exact.{ended_as}
use Rattle.backtest_engine.proofs.GaveLemmas.{later-sound}
use Rattle.backtest_engine.proofs.PhaseLemmas.{goes-none}
use Rattle.backtest_engine.proofs.MinuteLemmas.{broken-failed, broken-stop, faulted-of, front-nothing}
use Rattle.backtest_engine.proofs.StartLemmas.{opening-sound, exact-start, stock-none, opening-at, opening-calm, opening-knows, cut-none}
use Rattle.backtest_engine.proofs.backtest.start.Goals as goal

pub returns-in-Err-clause-walked : goal.returns-in-Err-clause-walked
returns-in-Err-clause-walked g c =
    let P = g.P.Pool in (
      [],
      [],
      goes-none (g.D.Desk.stands c.args.desk.now),
      λ before stand.
          (let (now, st, earlier, nothing) = c.in-Err.ensures.stands before no_feeds
          (stock-none (P.stands c.args.pool.now) before (P.added c.args.pool.now) c.new-heads.result c.new-keys.result.items c.new-heads.ensures stand) in
          (now, st, tt, λ lists m s b are follow right desk core op met. (front-nothing (g.S.Sink.told c.args.out.now) (whole m lists c.args.first c.args.last s).lines, tt))),
    )

pub returns-then-is_broken-clause-walked : goal.returns-then-is_broken-clause-walked
returns-then-is_broken-clause-walked g c =
    let P = g.P.Pool in
    let is : broken c.args.coarse (find (λ (a : Arrival). stops a.item) c.add_all.new.heads) ≡ true
    = sym (ap (broken c.args.coarse) c.stop.ensures.first) ∙ sym c.is_broken.ensures ∙ c.if-is_broken.true in (
      [],
      [],
      goes-none (g.D.Desk.stands c.args.desk.now),
      λ before stand.
          (let (now, st, earlier, opened) = c.in-Ok.ensures.stands before no_feeds
          (stock-none (P.stands c.args.pool.now) before (P.added c.args.pool.now) c.new-heads.result c.new-keys.result.items c.new-heads.ensures stand) in
          let failed = broken-failed c.args.coarse c.add_all.new.heads now opened.stock.taken is in (
            now,
            st,
            faulted-of c.args.coarse now failed,
            λ lists m s b are follow right desk core op met.
                (let at = opening-at lists c.args.coarse m are c.args.first c.args.opening.now s b op (P.stands c.add_all.new.pool) before (P.added c.args.pool.now) (P.added c.add_all.new.pool) now c.new-heads.result c.add_all.new.heads c.add_all.new.keys.items c.requires.new c.new-heads.ensures
                follow opened in
                ((cut-none m lists c.args.first c.args.last s (g.S.Sink.told c.args.out.now), failed), inl (broken-stop c.args.coarse (pos c.args.first) now c.add_all.new.heads (m.active s.own) at is))),
          )),
    )

pub returns-clause-walked : goal.returns-clause-walked
returns-clause-walked g c =
    let P = g.P.Pool in
    let C = g.C.Strategy in
    let heads = c.add_all.new.heads in
    let pool1 = c.add_all.new.pool in
    let core1 = c.add_all.new.core in
    let sound : broken c.args.coarse (find (λ (a : Arrival). stops a.item) heads) ≡ false
    = sym (ap (broken c.args.coarse) c.stop.ensures.first) ∙ sym c.is_broken.ensures ∙ c.if-is_broken.false in
    let (ds, more, goes, says) = c.walk.ensures.walked in (
      ds,
      more,
      goes,
      λ before stand.
          (let (mid, st, early, opened) = c.in-Ok.ensures.stands before no_feeds
          (stock-none (P.stands c.args.pool.now) before (P.added c.args.pool.now) c.new-heads.result c.new-keys.result.items c.new-heads.ensures stand) in
          let (now, st1, earlier, fault, is_end) = says before mid opened.stock in (
            now,
            st1,
            fault,
            λ lists m s b are follow right desk core op met.
                (let at = opening-at lists c.args.coarse m are c.args.first c.args.opening.now s b op (P.stands pool1) before (P.added c.args.pool.now) (P.added pool1) mid c.new-heads.result heads c.add_all.new.keys.items c.requires.new c.new-heads.ensures
                (earlier.0 lists follow) opened in
                let count : P.added pool1 ≡ length c.args.opening.now = (let a = c.in-Ok.ensures.added in let z = c.requires.new in omega (arith, a, z)) in
                let number : P.added c.args.pool.now + length c.args.opening.now ≡ m.added s.own = (let a = op.added in let z = c.requires.new in omega (arith, a, z)) in
                let named = c.in-Ok.ensures.named m s core number in
                let knows = opening-knows lists c.args.coarse m are c.args.first c.args.opening.now s b op (C.stands core1 m) (g.D.Desk.stands c.args.desk.now) (P.added pool1) mid heads named desk count at in
                let calm = opening-calm lists c.args.coarse m are c.args.first c.args.opening.now s b op mid heads at c.stop.ensures.rising sound in
                let sounds = later-sound mid now (pos c.args.first) (m.active s.own) earlier.1 (opening-sound lists c.args.coarse (pos c.args.first) mid heads (m.active s.own) at c.stop.ensures.rising sound) in
                let (ended, ends) = is_end lists m s b [] [] are follow right knows calm met in
                (ended, exact-start m lists c.args.first c.args.last s c.args.coarse now (ended_as c.walk.result) sounds ends)),
          )),
    )
