use Rattle.std.proofs.Common.{◌≡◌, ◌<◌, false, [], length, take, get_or, None, subst, refl, sym, ap, ◌∙◌, arith, append-nil}
use Rattle.std.proofs.lemmas.List.{length-set, take_all, take_more_set}
use Rattle.std.proofs.lemmas.List.Elements.{All-nil}
use Rattle.lean_items.specs.declared.arrival.Arrival.{Arrival}
use Rattle.lean_items.specs.Given.{end_of}
use Rattle.frontier_sync.specs.Heads.{stops}
use Rattle.frontier_sync.specs.Seen.{IsSeen}
use Rattle.frontier_sync.proofs.SliceLemmas.{sliced-none, sliced-more, sliced-short, sliced-all, rising-written, open-written, front-more, ok-of-err}
use Rattle.frontier_sync.proofs.TakenLemmas.{stays-none, stays-more}
use Rattle.frontier_sync.proofs.refill.refill_all.Goals as goal

pub heads-init : goal.heads-init
heads-init g c = record {
  sliced = sliced-none (g.P.Pool.stands c.args.pool.now) c.args.at.0 c.args.heads.now.items c.args.out.now.items;
  size = sym (c.len-place-end.ensures ∙ c.args.heads.now.ok.0);
  rising = c.requires.rising;
  opened = c.requires.opened;
  seen = (All-nil (λ (a : Arrival). stops a.item ≡ false), All-nil (λ (a : Arrival). end_of a.item ≡ None));
  front = ([], sym (append-nil c.args.out.now.items));
  added = refl;
  stays = stays-none g.P.Pool.files g.P.Pool.lists g.P.Pool.faults g.P.Pool.place c.args.pool.now;
}

pub returns-in_err-refill-clause-rising : goal.returns-in_err-refill-clause-rising
returns-in_err-refill-clause-rising g c =
    let head : Arrival = c.index_mut-head.result.now in
    let within : c.heads.place < length c.heads.heads.items = omega (arith, c.heads-test.true, c.heads.invariant.size) in
    let read : get_or c.heads.heads.items c.heads.place head ≡ head = sym c.index_mut-head.ensures.value in
    rising-written c.heads.heads.items c.heads.place head c.refill.new.head c.heads.invariant.rising within (c.refill.ensures.feed ∙ ap (λ (a : Arrival). a.feed) (sym read))

pub returns-in_err-refill-clause-took : goal.returns-in_err-refill-clause-took
returns-in_err-refill-clause-took g c =
    let head : Arrival = c.index_mut-head.result.now in
    let within : c.heads.place < length c.heads.heads.items = omega (arith, c.heads-test.true, c.heads.invariant.size) in
    let read : get_or c.heads.heads.items c.heads.place head ≡ head = sym c.index_mut-head.ensures.value in
    let (items, ok, takes) = c.refill.ensures.took in
    let (taken, moves, idle) = sliced-short (g.P.Pool.stands c.args.pool.now) (g.P.Pool.stands c.heads.pool) (g.P.Pool.stands c.refill.new.pool) c.args.at.0 c.heads.place
    c.args.heads.now.items c.heads.heads.items c.args.out.now.items c.heads.out.items head items c.heads.invariant.sliced c.requires.rising within read takes in
    (taken, ok-of-err c.from_residual.result _ c.from_residual.ensures.0, moves, idle)

pub heads-preserved : goal.heads-preserved
heads-preserved g c =
    let head : Arrival = c.index_mut-head.result.now in
    let within : c.heads.place < length c.heads.heads.items = omega (arith, c.heads-test.true, c.heads.invariant.size) in
    let read : get_or c.heads.heads.items c.heads.place head ≡ head = sym c.index_mut-head.ensures.value in
    let (items, ok, takes) = c.in_ok-refill.ensures.took in
    let inv = c.heads.invariant in
    record {
      sliced = sliced-more (g.P.Pool.stands c.args.pool.now) (g.P.Pool.stands c.heads.pool) (g.P.Pool.stands c.refill.new.pool) c.args.at.0 c.heads.place
          c.args.heads.now.items c.heads.heads.items c.args.out.now.items c.heads.out.items c.refill.new.out.items head c.refill.new.head items inv.sliced c.requires.rising
          within read c.refill.ensures.feed ok.0 ok.1 takes;
      size = length-set c.heads.heads.items c.heads.place c.refill.new.head ∙ inv.size;
      rising = rising-written c.heads.heads.items c.heads.place head c.refill.new.head inv.rising within (c.refill.ensures.feed ∙ ap (λ (a : Arrival). a.feed) (sym read));
      opened = open-written (g.P.Pool.is_open c.heads.pool) (g.P.Pool.is_open c.refill.new.pool) c.heads.heads.items c.heads.place head c.refill.new.head inv.opened
          inv.rising within read c.refill.ensures.feed c.refill.ensures.opened c.refill.ensures.others;
      seen = subst (λ xs. IsSeen xs c.seen_with-seen.result) (sym (take_more_set c.heads.heads.items c.heads.place c.refill.new.head within))
          (c.seen_with-seen.ensures (take c.heads.place c.heads.heads.items) c.refill.new.head refl inv.seen);
      front = front-more c.args.out.now.items c.heads.out.items c.refill.new.out.items inv.front c.refill.ensures.front;
      added = c.refill.ensures.added ∙ inv.added;
      stays = stays-more g.P.Pool.files g.P.Pool.lists g.P.Pool.faults g.P.Pool.place c.args.pool.now c.heads.pool c.refill.new.pool inv.stays c.refill.ensures.stays;
    }

pub returns-clause-took : goal.returns-clause-took
returns-clause-took g c =
    sliced-all (g.P.Pool.stands c.args.pool.now) (g.P.Pool.stands c.heads.pool) c.args.at.0 c.heads.place c.args.heads.now.items c.heads.heads.items
    c.args.out.now.items c.heads.out.items c.heads.invariant.sliced (omega (arith, c.heads-test.false, c.heads.invariant.size))

pub returns-clause-seen : goal.returns-clause-seen
returns-clause-seen g c =
    subst (λ xs. IsSeen xs c.heads.seen) (take_all c.heads.place c.heads.heads.items (omega (arith, c.heads-test.false, c.heads.invariant.size))) c.heads.invariant.seen
