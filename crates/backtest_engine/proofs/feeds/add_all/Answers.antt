use Rattle.std.proofs.Common.{◌≡◌, ◌+◌, ◌<◌, ◌++◌, ◌∷◌, [], length, take, drop, sym, ◌∙◌, ap, arith, subst}
use Rattle.std.proofs.lemmas.List.{take_more, length-take-le, length-drop}
use Rattle.frontier_sync.proofs.TakenLemmas.{stays-more}
use Rattle.backtest_engine.specs.Opened.{Opened}
use Rattle.backtest_engine.proofs.GaveLemmas.{earlier-then}
use Rattle.backtest_engine.proofs.FeedLemmas.{drop-next, opened-more}
use Rattle.backtest_engine.proofs.feeds.add_all.Goals as goal

pub returns-in-Err-clause-stands : goal.returns-in-Err-clause-stands
returns-in-Err-clause-stands g c before feeds stock =
    let (later, earlier, o) = c.keys.invariant.known before feeds stock in
    let (now, stand, before_now, made) = c.in-Err.ensures.stands before later o.stock in
    (now, stand, earlier-then feeds later now earlier before_now, tt)

pub keys-preserved : goal.keys-preserved
keys-preserved g c =
    let P = g.P.Pool in
    let inv = c.keys.invariant in
    let place = c.keys.place in
    let added = c.args.added.now in
    let key = c.index-added-place.result in
    let first = c.args.pool.now in
    let pool = c.keys.pool in
    let new = c.add_one.new.pool in
    let did = c.in-Ok.ensures in
    let within : place < length added = c.keys-test.true in
    let taken : take (place + 1) added ≡ take place added ++ key ∷ []
    = take_more added place key within ∙ ap (λ x. take place added ++ x ∷ []) (sym c.index-added-place.is) in
    let count : length (take place added) ≡ place = length-take-le place added (omega (arith, within)) in
    let dropped = drop-next added place key within ∙ ap (λ x. x ∷ drop (place + 1) added) (sym c.index-added-place.is) in
    record {
      opened = did.opened;
      numbered = did.numbered;
      kept = did.kept;
      added = omega (arith, did.added, inv.added);
      named = λ m s h is.
          (let left = length-drop (place + 1) added in
          let e : P.added pool + (length (drop (place + 1) added) + 1) ≡ m.added s.own = omega (arith, is, inv.added, left, within) in
          did.named m s (drop (place + 1) added) (subst (λ xs. g.C.Strategy.stands c.keys.core m s xs) dropped (inv.named m s h is)) e);
      orders = omega (arith, did.orders, inv.orders);
      known = λ before feeds stock.
          (let (later, earlier, o) = inv.known before feeds stock in
          let (now, stand, before_now, made) = did.stands before later o.stock in (
            now,
            earlier-then feeds later now earlier before_now,
            subst (λ ks. Opened (P.stands new) before (P.added first) (P.added new) feeds now c.args.heads.now c.add_one.new.heads c.add_one.new.keys.items ks) (sym taken)
                (opened-more (P.stands pool) (P.stands new) before (P.added first) (P.added pool) (P.added new) feeds later now c.args.heads.now c.keys.heads c.add_one.new.heads
                c.keys.keys.items c.add_one.new.keys.items (take place added) key (omega (arith, inv.added, count)) before_now o made),
          ));
      stays = stays-more P.files P.lists P.faults P.place first pool new inv.stays did.stays;
    }
