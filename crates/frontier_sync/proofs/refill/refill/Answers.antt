use Rattle.std.proofs.Common.{◌≡◌, true, false, [], ◌∷◌, ◌++◌, map, refl, sym, ap, ◌∙◌, append-nil}
use Rattle.frontier_sync.specs.Heads.{arrival}
use Rattle.frontier_sync.specs.Slices.{ends_at}
use Rattle.frontier_sync.proofs.TakenLemmas.{stays-none, stays-more, takes-none, takes-more}
use Rattle.frontier_sync.proofs.RefillLemmas.{sofar-none, sofar-more, sofar-end, open-next, open-others, given-more}
use Rattle.frontier_sync.proofs.refill.refill.Goals as goal

pub items-init : goal.items-init
items-init g c = record {
  feed = refl;
  took = (
    [],
    [],
    sofar-none c.args.at.0 c.args.head.now.item,
    sym (append-nil c.args.out.now.items),
    takes-none (g.P.Pool.stands c.args.pool.now) c.args.head.now.feed.0,
  );
  opened = c.requires.opened;
  others = λ n other. refl;
  added = refl;
  stays = stays-none g.P.Pool.files g.P.Pool.lists g.P.Pool.faults g.P.Pool.place c.args.pool.now;
}

pub items-preserved : goal.items-preserved
items-preserved g c =
    let inv = c.items.invariant in
    let (taken, given, sofar, out, stands) = inv.took in
    let next = c.take_fitting-head in
    let (passed, misfits, takes) = next.ensures.took in
    let first = c.args.pool.now in
    let now = c.items.pool in
    let feed = c.args.head.now.feed in
    let ends : ends_at c.args.at.0 c.items.head.item ≡ true = sym c.ends_at.ensures ∙ c.items-test.true in
    record {
      feed = inv.feed;
      took = (
        taken ++ (passed ++ next.result ∷ []),
        given ++ c.items.head.item ∷ [],
        sofar-more c.args.at.0 c.args.head.now.item taken given c.items.head.item passed next.result sofar ends misfits next.ensures.fits,
        given-more c.args.out.now.items c.items.out.items c.push.new.self.items feed given c.items.head out c.in_ok-push.ensures.items inv.feed,
        takes-more (g.P.Pool.stands first) (g.P.Pool.stands now) (g.P.Pool.stands next.new.pool) feed.0 taken (passed ++ next.result ∷ []) stands takes,
      );
      opened = open-next (g.P.Pool.is_open now) (g.P.Pool.is_open next.new.pool) feed.0 next.result next.ensures.opened;
      others = open-others (g.P.Pool.is_open first) (g.P.Pool.is_open now) (g.P.Pool.is_open next.new.pool) feed.0 next.result inv.others next.ensures.opened;
      added = next.ensures.added ∙ inv.added;
      stays = stays-more g.P.Pool.files g.P.Pool.lists g.P.Pool.faults g.P.Pool.place first now next.new.pool inv.stays next.ensures.stays;
    }

pub returns-clause-took : goal.returns-clause-took
returns-clause-took g c =
    let (taken, given, sofar, out, stands) = c.items.invariant.took in
    let other : ends_at c.args.at.0 c.items.head.item ≡ false = sym c.ends_at.ensures ∙ c.items-test.false in
    let refilled = sofar-end c.args.at.0 c.args.head.now.item taken given c.items.head.item sofar other in
    (taken, (refilled.0, out ∙ ap (λ items. c.args.out.now.items ++ map (arrival c.args.head.now.feed) items) (sym refilled.1)), stands)
