use Rattle.std.proofs.Common.{rules, ◌≡◌, ◌+◌, ◌<◌, pos, true, false, [], ◌∷◌, ◌++◌, length, take, sym, ap, ◌∙◌, subst, arith}
use Rattle.std.specs.List.{All}
use Rattle.std.proofs.lemmas.List.{take_more, take_all, length-take-le}
use Rattle.lean_fixed.specs.Moments.{first_moment}
use Rattle.frontier_sync.specs.Heads.{arrival, fits_first, AreOpen}
use Rattle.frontier_sync.specs.Stands.{HeadsStand}
use Rattle.frontier_sync.proofs.TakenLemmas.{stays-more}
use Rattle.session_tape.specs.Walked.{keys_of}
use Rattle.session_tape.proofs.OpenLemmas.{put_last, numbered_more, open_more, later_more, Opened, opened_more}
use Rattle.session_tape.proofs.WalkLemmas.{AreNumbered, AllFrom}
use Rattle.session_tape.proofs.feeds.open_feeds.Goals as goal

pub symbols-preserved : goal.symbols-preserved
symbols-preserved g c =
    let inv = c.symbols.invariant in
    let place = c.symbols.place in
    let symbols = c.args.symbols.now in
    let symbol = c.index-symbols-place.result in
    let feed = c.in_ok-feed.feed in
    let item = c.first_head-item.result in
    let heads = c.symbols.heads in
    let start = first_moment c.args.window in
    let now = c.first_head-item.new.pool in
    let within : place < length symbols = c.symbols-test.true in
    let number : feed.0 ≡ place = c.in_ok-feed.ensures.number ∙ inv.added in
    let past : fits_first (pos start) item ≡ true = subst (λ z. fits_first z item ≡ true) c.first_moment.ensures c.first_head-item.ensures.fits in
    let (passed, none, takes) = c.first_head-item.ensures.took in
    let before = subst (λ z. All (λ x. fits_first z x ≡ false) passed) c.first_moment.ensures none in
    let numbered : AreNumbered feed.0 heads = subst (λ n. AreNumbered n heads) (sym number) inv.numbered in
    let is : c.set.new.self ≡ heads ++ arrival feed item ∷ [] = c.in_ok-set.ensures.ok ∙ put_last (arrival feed item) heads numbered in
    let count : length (take place symbols) ≡ place = length-take-le place symbols (omega (arith, within)) in
    let taken : take (place + 1) symbols ≡ take place symbols ++ symbol ∷ []
    = take_more symbols place symbol within ∙ ap (λ x. take place symbols ++ x ∷ []) (sym c.index-symbols-place.is) in
    record {
      opened = subst (λ hs. AreOpen (g.P.Pool.is_open now) hs) (sym is)
          (open_more (g.P.Pool.is_open c.symbols.pool) (g.P.Pool.is_open c.add.new.self) (g.P.Pool.is_open now) feed item heads numbered inv.opened c.in_ok-feed.ensures.opened c.first_head-item.ensures.opened);
      numbered = subst (λ hs. AreNumbered (place + 1) hs) (sym is) (numbered_more place (arrival feed item) heads number inv.numbered);
      later = subst (λ hs. AllFrom (start + 1) hs) (sym is) (later_more start feed item heads past inv.later);
      added = c.first_head-item.ensures.added ∙ c.in_ok-feed.ensures.added ∙ ap (λ n. n + 1) inv.added;
      known = λ b h.
          subst (λ hs. Opened c.args.resolution c.args.window (g.P.Pool.stands now) b hs (take (place + 1) symbols)) (sym is)
          (subst (λ xs. Opened c.args.resolution c.args.window (g.P.Pool.stands now) b (heads ++ arrival feed item ∷ []) xs) (sym taken)
          (opened_more c.args.resolution c.args.window c.requires.window (g.P.Pool.stands c.symbols.pool) (g.P.Pool.stands c.add.new.self) (g.P.Pool.stands now) b heads
          (take place symbols) symbol feed passed item (inv.known b h)
          (λ k feeds st. search (rules, c.in_ok-feed.ensures.stands k feeds st))
          takes before past (number ∙ sym count) (subst (λ n. AreNumbered n heads) (sym count) inv.numbered)));
      stays = stays-more g.P.Pool.files g.P.Pool.lists g.P.Pool.faults g.P.Pool.place c.args.pool.now c.symbols.pool now inv.stays
          (stays-more g.P.Pool.files g.P.Pool.lists g.P.Pool.faults g.P.Pool.place c.symbols.pool c.add.new.self now
          (record { told = c.in_ok-feed.ensures.files; keyed = c.in_ok-feed.ensures.lists; grows = c.in_ok-feed.ensures.grows; placed = c.in_ok-feed.ensures.place })
          c.first_head-item.ensures.stays);
    }

pub returns-clause-stands : goal.returns-clause-stands
returns-clause-stands g c before h =
    let o = c.symbols.invariant.known before h in
    let all = take_all c.symbols.place c.args.symbols.now c.symbols-test.false in (
      o.feeds,
      o.stands_now,
      (
        o.taken,
        λ lists f hours are follow.
            subst (λ xs. HeadsStand (pos (first_moment c.args.window + 1)) o.feeds 0 c.symbols.heads (keys_of c.args.resolution c.args.window xs)) all (o.stand lists f hours are follow),
      ),
    )
