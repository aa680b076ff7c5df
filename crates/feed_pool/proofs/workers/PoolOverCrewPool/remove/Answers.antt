-- A feed was shut; one by one the feeds that were shut and whose turns are home are let go, and their hands given back.
use Rattle.std.proofs.Common.{◌≡◌, ◌≤◌, ◌∙◌, ap, refl, subst, sym, arith}
use Rattle.std.specs.Arc.{arc_value}
use Rattle.lean_fixed.specs.Counts.{raised}
use Rattle.lean_items.specs.Taken.{Start}
use Rattle.feed_pool.specs.Lists.{lists_of}
use Rattle.feed_pool.specs.Crews.{Manned, show_all, shut_in, is_open_in}
use Rattle.feed_pool.proofs.CrewLemmas.{manned-shut, manned-gone, opened-shut, opened-gone}
use Rattle.feed_pool.proofs.workers.PoolOverCrewPool.remove.Goals as goal

pub left-init : goal.left-init
left-init g c =
    let pool = c.args.self.now in
    let seats = show_all pool.slots.seats.items in
    let lists = lists_of (g.F.Folder.files pool.folder.now) (arc_value pool.slots.hours) pool.slots.window in
    let now : Start = record { faults = g.F.Folder.faults pool.folder.now; hands = g.F.Folder.hands pool.folder.now } in
    let is : show_all c.shut_at.new.seats.items ≡ shut_in seats c.args.feed.0 = c.shut_at.ensures.shut in
    record {
      stands = λ start feeds manned. subst (λ s. Manned lists start now s feeds) (sym is) (manned-shut lists start now seats feeds c.args.feed.0 manned);
      opened = λ n. ap (λ s. is_open_in s n) is ∙ opened-shut seats c.args.feed.0 n;
      count = c.shut_at.ensures.count;
      files = refl;
      hours = refl;
      window = refl;
      grows = omega arith;
      place = refl;
    }

pub left-preserved : goal.left-preserved
left-preserved g c =
    let pool = c.args.self.now in
    let old = c.left.self in
    let lists = lists_of (g.F.Folder.files pool.folder.now) (arc_value pool.slots.hours) pool.slots.window in
    let now : Start = record { faults = g.F.Folder.faults old.folder.now; hands = g.F.Folder.hands old.folder.now } in
    let later : Start = record { faults = g.F.Folder.faults c.take_back.new.self; hands = g.F.Folder.hands c.take_back.new.self } in
    let raises : later.faults ≡ raised now.faults (g.G.Feed.faults c.in-Some.feed) = c.take_back.ensures.raised ∙ ap (raised now.faults) c.into_hand.ensures in
    let gone = c.in-Some.ensures.collected in
    record {
      stands = λ start feeds manned. manned-gone lists start now later (show_all old.slots.seats.items) (show_all c.collect.new.seats.items) feeds c.in-Some.feed
          c.take_back.ensures.grows raises c.take_back.ensures.back gone (c.left.invariant.stands start feeds manned);
      opened = λ n. opened-gone (show_all old.slots.seats.items) (show_all c.collect.new.seats.items) c.in-Some.feed gone n ∙ c.left.invariant.opened n;
      count = c.in-Some.ensures.count ∙ c.left.invariant.count;
      files = c.take_back.ensures.kept ∙ c.left.invariant.files;
      hours = c.left.invariant.hours;
      window = c.left.invariant.window;
      grows = omega (arith, c.left.invariant.grows, c.take_back.ensures.grows);
      place = c.left.invariant.place;
    }

pub returns-in-None-clause-stands : goal.returns-in-None-clause-stands
returns-in-None-clause-stands g c start feeds manned =
    let pool = c.args.self.now in
    let old = c.left.self in
    let now : Start = record { faults = g.F.Folder.faults old.folder.now; hands = g.F.Folder.hands old.folder.now } in
    rw (c.left.invariant.files, c.left.invariant.hours, c.left.invariant.window, c.in-None.ensures.collected) (c.left.invariant.stands start feeds manned)
