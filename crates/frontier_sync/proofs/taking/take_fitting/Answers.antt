use Rattle.std.proofs.Common.{◌≡◌, ◌<◌, false, [], ◌∷◌, ◌++◌, sym, ◌∙◌, arith}
use Rattle.std.proofs.lemmas.List.Elements.{All-push}
use Rattle.frontier_sync.specs.Heads.{fits_by}
use Rattle.frontier_sync.proofs.TakenLemmas.{stays-more, takes-more}
use Rattle.frontier_sync.proofs.RefillLemmas.{on-row, open-still}
use Rattle.frontier_sync.proofs.FirstLemmas.{passed-over}
use Rattle.frontier_sync.proofs.taking.take_fitting.Goals as goal

pub taken-preserved : goal.taken-preserved
taken-preserved g c =
    let took = c.taken.invariant.took in
    let feed = c.args.feed.0 in
    let item = c.take-item.result in
    let first = c.args.pool.now in
    let now = c.taken.pool in
    let next = c.take-item.new.self in
    let misfit : fits_by c.args.first c.args.after.0 item ≡ false = sym c.fits_by.ensures ∙ c.if-fits_by.false in
    let row = passed-over c.args.first c.args.after.0 item misfit in
    let fewer : g.P.Pool.room next feed < g.P.Pool.room now feed = on-row item (g.P.Pool.room next feed < g.P.Pool.room now feed) c.take-item.ensures.fewer row in
    record {
      took = (
        took.0 ++ item ∷ [],
        All-push (λ x. fits_by c.args.first c.args.after.0 x ≡ false) took.0 item took.1 misfit,
        takes-more (g.P.Pool.stands first) (g.P.Pool.stands now) (g.P.Pool.stands next) feed took.0 (item ∷ []) took.2 c.take-item.ensures.stands,
      );
      opened = open-still (g.P.Pool.is_open first) (g.P.Pool.is_open now) (g.P.Pool.is_open next) feed item row c.requires.opened c.taken.invariant.opened c.take-item.ensures.opened;
      fewer = omega (arith, fewer, c.taken.invariant.fewer);
      added = c.take-item.ensures.added ∙ c.taken.invariant.added;
      stays = stays-more g.P.Pool.files g.P.Pool.lists g.P.Pool.faults g.P.Pool.place first now next c.taken.invariant.stays
          (record { told = c.take-item.ensures.files; keyed = c.take-item.ensures.lists; grows = c.take-item.ensures.grows; placed = c.take-item.ensures.place });
    }
