-- The last feed was let go, and its hand given back; at the end all are.
use Rattle.std.proofs.Common.{◌≡◌, ◌≤◌, ◌∙◌, ◌++◌, ◌∷◌, [], length, None, Some, ap, subst, arith}
use Rattle.std.specs.Option.{option_to_list}
use Rattle.std.specs.Arc.{arc_value}
use Rattle.lean_fixed.specs.Counts.{raised}
use Rattle.lean_items.specs.Taken.{Start}
use Rattle.feed_pool.specs.Lists.{lists_of}
use Rattle.feed_pool.specs.Crews.{Manned, show_all}
use Rattle.feed_pool.proofs.CrewLemmas.{manned-popped, manned-passed, none-left}
use Rattle.feed_pool.proofs.workers.PoolOverCrewPool.finish.Goals as goal

pub feeds-preserved-in-Some-Some : goal.feeds-preserved-in-Some-Some
feeds-preserved-in-Some-Some g c =
    let first = c.args.self.now in
    let old = c.feeds.self in
    let left = c.settle.result in
    let lists = lists_of (g.F.Folder.files first.folder.now) (arc_value first.slots.hours) first.slots.window in
    let now : Start = record { faults = g.F.Folder.faults old.folder.now; hands = g.F.Folder.hands old.folder.now } in
    let later : Start = record { faults = g.F.Folder.faults c.take_back.new.self; hands = g.F.Folder.hands c.take_back.new.self } in
    let split : old.slots.seats.items ≡ c.pop.new.self.items ++ Some c.in-Some-Some.seat ∷ []
    = c.pop.ensures.items ∙ ap (λ r. c.pop.new.self.items ++ option_to_list r) (c.in-Some-Some.is ∙ ap Some c.in-Some-Some.field-0-is) in
    let raises : later.faults ≡ raised now.faults (g.G.Feed.faults left) = c.take_back.ensures.raised ∙ ap (raised now.faults) c.into_hand.ensures in
    record {
      stands = λ start feeds manned. manned-popped lists start now later c.pop.new.self.items c.in-Some-Some.seat feeds left c.take_back.ensures.grows raises c.take_back.ensures.back
          c.settle.ensures (subst (λ seats. Manned lists start now (show_all seats) feeds) split (c.feeds.invariant.stands start feeds manned));
      files = c.take_back.ensures.kept ∙ c.feeds.invariant.files;
      hours = c.feeds.invariant.hours;
      window = c.feeds.invariant.window;
      grows = omega (arith, c.feeds.invariant.grows, c.take_back.ensures.grows);
      place = c.feeds.invariant.place;
    }

pub feeds-preserved : goal.feeds-preserved
feeds-preserved g c =
    let first = c.args.self.now in
    let old = c.feeds.self in
    let lists = lists_of (g.F.Folder.files first.folder.now) (arc_value first.slots.hours) first.slots.window in
    let now : Start = record { faults = g.F.Folder.faults old.folder.now; hands = g.F.Folder.hands old.folder.now } in
    let split : old.slots.seats.items ≡ c.pop.new.self.items ++ None ∷ []
    = c.pop.ensures.items ∙ ap (λ r. c.pop.new.self.items ++ option_to_list r) (c.in-Some-None.is ∙ ap Some c.in-Some-None.field-0-is) in
    record {
      stands = λ start feeds manned. manned-passed lists start now c.pop.new.self.items feeds
          (subst (λ seats. Manned lists start now (show_all seats) feeds) split (c.feeds.invariant.stands start feeds manned));
      files = c.feeds.invariant.files;
      hours = c.feeds.invariant.hours;
      window = c.feeds.invariant.window;
      grows = c.feeds.invariant.grows;
      place = c.feeds.invariant.place;
    }

pub returns-in-None-clause-follow : goal.returns-in-None-clause-follow
returns-in-None-clause-follow g c start feeds manned =
    let first = c.args.self.now in
    let old = c.feeds.self in
    let lists = lists_of (g.F.Folder.files first.folder.now) (arc_value first.slots.hours) first.slots.window in
    let now : Start = record { faults = g.F.Folder.faults old.folder.now; hands = g.F.Folder.hands old.folder.now } in
    let none : length old.slots.seats.items ≡ 0 = omega (arith, c.in-None.ensures.cases, old.slots.seats.ok.0) in
    (none-left lists old.slots.seats.items start now feeds none (c.feeds.invariant.stands start feeds manned)).0

pub returns-in-None-clause-rose : goal.returns-in-None-clause-rose
returns-in-None-clause-rose g c start feeds manned =
    let first = c.args.self.now in
    let old = c.feeds.self in
    let lists = lists_of (g.F.Folder.files first.folder.now) (arc_value first.slots.hours) first.slots.window in
    let now : Start = record { faults = g.F.Folder.faults old.folder.now; hands = g.F.Folder.hands old.folder.now } in
    let none : length old.slots.seats.items ≡ 0 = omega (arith, c.in-None.ensures.cases, old.slots.seats.ok.0) in
    (none-left lists old.slots.seats.items start now feeds none (c.feeds.invariant.stands start feeds manned)).1
