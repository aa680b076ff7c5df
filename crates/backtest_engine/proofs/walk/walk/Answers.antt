use Rattle.std.proofs.Common.{◌≡◌, ◌<◌, Some, None, length, sym, ◌∙◌, ap, arith, subst}
use Rattle.std.specs.Prelude.{find}
use Rattle.lean_items.specs.declared.arrival.Arrival.{Arrival}
use Rattle.frontier_sync.specs.Heads.{stops}
use Rattle.frontier_sync.proofs.StandLemmas.{head-found}
use Rattle.frontier_sync.proofs.TakenLemmas.{stays-none, stays-more}
use Rattle.backtest_engine.specs.Walked.{IsEnding}
use Rattle.backtest_engine.proofs.KnownLemmas.{known-first, known-came, known-next, known-whole, known-stopped, ends-cut}
use Rattle.backtest_engine.proofs.walk.walk.Goals as goal

pub moments-init : goal.moments-init
moments-init g c =
    let P = g.P.Pool in
    record {
      known = known-first c.args.coarse c.args.first c.args.last (g.D.Desk.stands c.args.desk.now) (P.stands c.args.pool.now) (P.added c.args.pool.now) c.args.heads.now c.args.keys.now.items (g.C.Strategy.stands c.args.core.now) g.C.Strategy.meets (g.S.Sink.told c.args.out.now);
      low = omega arith;
      high = c.requires.order;
      fed = c.requires.fed;
      done = c.requires.done;
      few = (let a = c.requires.few in omega (arith, a));
      orders = c.requires.orders;
      opened = c.requires.opened;
      numbered = c.requires.numbered;
      kept = c.requires.kept;
      sink_grows = omega arith;
      stays = stays-none P.files P.lists P.faults P.place c.args.pool.now;
    }

pub returns-in-Err-clause-walked : goal.returns-in-Err-clause-walked
returns-in-Err-clause-walked g c =
    let P = g.P.Pool in
    let D = g.D.Desk in
    let C = g.C.Strategy in
    let l = c.moments in
    let inv = l.invariant in
    ends-cut c.args.coarse c.args.first c.args.last (D.stands c.args.desk.now) (P.stands c.args.pool.now) (P.added c.args.pool.now) c.args.heads.now c.args.keys.now.items (C.stands c.args.core.now) C.meets (g.S.Sink.told c.args.out.now)
    (D.stands l.desk) (P.stands l.pool) (P.added l.pool) l.heads l.keys.items (C.stands l.core) l.at (g.S.Sink.told l.out) inv.low inv.high inv.known
    (D.stands c.moment.new.desk) (P.stands c.moment.new.pool) (P.added c.moment.new.pool) c.moment.new.heads c.moment.new.keys.items (C.stands c.moment.new.core) c.moment_of.result (g.S.Sink.told c.moment.new.out) c.in-Err.cut
    c.moment_of.ensures c.in-Err.ensures.moved

pub ending_at-requires-clause-stops : goal.ending_at-requires-clause-stops
ending_at-requires-clause-stops g c =
    let found : find (λ (a : Arrival). stops a.item) c.moment.new.heads ≡ Some c.in-Some.stop = sym c.stop.ensures.first ∙ c.in-Some.is in
    (head-found (λ a. a.feed.0 < g.P.Pool.added c.moment.new.pool) (λ (a : Arrival). stops a.item) c.moment.new.heads c.in-Some.stop c.in-Ok.ensures.numbered found).1

pub ending_at-requires-clause-numbered : goal.ending_at-requires-clause-numbered
ending_at-requires-clause-numbered g c =
    let found : find (λ (a : Arrival). stops a.item) c.moment.new.heads ≡ Some c.in-Some.stop = sym c.stop.ensures.first ∙ c.in-Some.is in
    let low = (head-found (λ a. a.feed.0 < g.P.Pool.added c.moment.new.pool) (λ (a : Arrival). stops a.item) c.moment.new.heads c.in-Some.stop c.in-Ok.ensures.numbered found).0 in
    let count : length c.deref.result.now ≡ g.P.Pool.added c.moment.new.pool = ap length c.deref.ensures.value ∙ c.in-Ok.ensures.kept in
    subst (λ n. c.in-Some.stop.feed.0 < n) (sym count) low

pub returns-in-Some-clause-walked : goal.returns-in-Some-clause-walked
returns-in-Some-clause-walked g c =
    let P = g.P.Pool in
    let D = g.D.Desk in
    let C = g.C.Strategy in
    let l = c.moments in
    let inv = l.invariant in
    let new = c.moment.new in
    let found : find (λ (a : Arrival). stops a.item) new.heads ≡ Some c.in-Some.stop = sym c.stop.ensures.first ∙ c.in-Some.is in
    let told0 = g.S.Sink.told c.args.out.now in
    let behind = known-came c.args.coarse c.args.first c.args.last (D.stands c.args.desk.now) (P.stands c.args.pool.now) (P.added c.args.pool.now) c.args.heads.now c.args.keys.now.items (C.stands c.args.core.now) C.meets told0
    (D.stands l.desk) (P.stands l.pool) (P.added l.pool) l.heads l.keys.items (C.stands l.core) l.at (g.S.Sink.told l.out) inv.low inv.high inv.known
    (D.stands new.desk) (P.stands new.pool) (P.added new.pool) new.heads new.keys.items (C.stands new.core) c.moment_of.result (g.S.Sink.told new.out) c.moment_of.ensures c.in-Ok.ensures.moved in
    known-stopped c.args.coarse c.args.first c.args.last (D.stands c.args.desk.now) (P.stands c.args.pool.now) (P.added c.args.pool.now) c.args.heads.now c.args.keys.now.items (C.stands c.args.core.now) C.meets told0
    (D.stands new.desk) (P.stands new.pool) (P.added new.pool) new.heads new.keys.items (C.stands new.core) l.at (g.S.Sink.told new.out) inv.low inv.high (λ m s t h met none. C.idle new.core m s t h met none) behind
    c.in-Some.stop c.ending_at.result found (subst (λ ks. IsEnding ks c.in-Some.stop c.ending_at.result) c.deref.ensures.value c.ending_at.ensures)

pub moments-preserved : goal.moments-preserved
moments-preserved g c =
    let P = g.P.Pool in
    let D = g.D.Desk in
    let C = g.C.Strategy in
    let l = c.moments in
    let inv = l.invariant in
    let new = c.moment.new in
    let did = c.in-Ok.ensures in
    let next = c.in-Some-next_minute.next in
    let then = c.in-Some-next_minute.ensures in
    let none : find (λ (a : Arrival). stops a.item) new.heads ≡ None = sym c.stop.ensures.first ∙ c.in-None.is in
    let told0 = g.S.Sink.told c.args.out.now in
    let behind = known-came c.args.coarse c.args.first c.args.last (D.stands c.args.desk.now) (P.stands c.args.pool.now) (P.added c.args.pool.now) c.args.heads.now c.args.keys.now.items (C.stands c.args.core.now) C.meets told0
    (D.stands l.desk) (P.stands l.pool) (P.added l.pool) l.heads l.keys.items (C.stands l.core) l.at (g.S.Sink.told l.out) inv.low inv.high inv.known
    (D.stands new.desk) (P.stands new.pool) (P.added new.pool) new.heads new.keys.items (C.stands new.core) c.moment_of.result (g.S.Sink.told new.out) c.moment_of.ensures did.moved in
    record {
      known = known-next c.args.coarse c.args.first c.args.last (D.stands c.args.desk.now) (P.stands c.args.pool.now) (P.added c.args.pool.now) c.args.heads.now c.args.keys.now.items (C.stands c.args.core.now) C.meets told0
          (D.stands new.desk) (P.stands new.pool) (P.added new.pool) new.heads new.keys.items (C.stands new.core) l.at (g.S.Sink.told new.out) inv.low inv.high (λ m s t h met none. C.idle new.core m s t h met none) behind
          next then.later.0 then.later.1 none then.ends then.closes;
      low = (let a = then.later.0 in let b = inv.low in omega (arith, a, b));
      high = then.later.1;
      fed = did.fed;
      done = did.done;
      few = (let a = did.few in let b = inv.few in let d = then.later.0 in omega (arith, a, b, d));
      orders = did.orders;
      opened = did.opened;
      numbered = did.numbered;
      kept = did.kept;
      sink_grows = (let a = did.sink_grows in let b = inv.sink_grows in omega (arith, a, b));
      stays = stays-more P.files P.lists P.faults P.place c.args.pool.now l.pool new.pool inv.stays did.stays;
    }

pub returns-in-None-next_minute-clause-walked : goal.returns-in-None-next_minute-clause-walked
returns-in-None-next_minute-clause-walked g c =
    let P = g.P.Pool in
    let D = g.D.Desk in
    let C = g.C.Strategy in
    let l = c.moments in
    let inv = l.invariant in
    let new = c.moment.new in
    let then = c.in-None-next_minute.ensures in
    let none : find (λ (a : Arrival). stops a.item) new.heads ≡ None = sym c.stop.ensures.first ∙ c.in-None.is in
    let told0 = g.S.Sink.told c.args.out.now in
    let behind = known-came c.args.coarse c.args.first c.args.last (D.stands c.args.desk.now) (P.stands c.args.pool.now) (P.added c.args.pool.now) c.args.heads.now c.args.keys.now.items (C.stands c.args.core.now) C.meets told0
    (D.stands l.desk) (P.stands l.pool) (P.added l.pool) l.heads l.keys.items (C.stands l.core) l.at (g.S.Sink.told l.out) inv.low inv.high inv.known
    (D.stands new.desk) (P.stands new.pool) (P.added new.pool) new.heads new.keys.items (C.stands new.core) c.moment_of.result (g.S.Sink.told new.out) c.moment_of.ensures c.in-Ok.ensures.moved in
    known-whole c.args.coarse c.args.first c.args.last (D.stands c.args.desk.now) (P.stands c.args.pool.now) (P.added c.args.pool.now) c.args.heads.now c.args.keys.now.items (C.stands c.args.core.now) C.meets told0
    (D.stands new.desk) (P.stands new.pool) (P.added new.pool) new.heads new.keys.items (C.stands new.core) l.at (g.S.Sink.told new.out) inv.low inv.high (λ m s t h met none. C.idle new.core m s t h met none) behind
    none then.ends then.closes
