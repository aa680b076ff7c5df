-- The last feed was let go, and its hand given back; at the end all are.
use Rattle.std.proofs.Common.{◌≡◌, ◌+◌, ◌≤◌, add-zero, ◌∙◌, ◌++◌, ◌∷◌, [], length, None, Some, refl, ap, subst, arith}
use Rattle.std.specs.Option.{option_to_list}
use Rattle.std.specs.Arc.{arc_value}
use Rattle.lean_fixed.specs.Counts.{raised}
use Rattle.feed_pool.specs.Lists.{lists_of}
use Rattle.feed_pool.specs.Running.{Stands, held}
use Rattle.feed_pool.proofs.HandLemmas.{held-push, empty-when_none}
use Rattle.feed_pool.proofs.RunLemmas.{stands-popped, all-follow, faults-rose}
use Rattle.feed_pool.proofs.serial.PoolOverSlotsPool.finish.Goals as goal

pub feeds-preserved-in-Some-Some : goal.feeds-preserved-in-Some-Some
feeds-preserved-in-Some-Some g c =
    let first = c.args.self.now in
    let old = c.feeds.self in
    let feed = g.G.Feed in
    let lists = lists_of (g.F.Folder.files first.folder.now) (arc_value first.slots.hours) first.slots.window in
    let now = g.F.Folder.faults old.folder.now in
    let later = g.F.Folder.faults c.take_back.new.self in
    let split : old.slots.feeds.items ≡ c.pop.new.self.items ++ Some c.in-Some-Some.feed ∷ []
    = c.pop.ensures.items ∙ ap (λ r. c.pop.new.self.items ++ option_to_list r) (c.in-Some-Some.is ∙ ap Some c.in-Some-Some.field-0-is) in
    let grows : now ≤ later = c.take_back.ensures.grows in
    let raises : later ≡ raised now (feed.faults c.in-Some-Some.feed) = c.take_back.ensures.raised ∙ ap (raised now) c.into_hand.ensures in
    record {
      stands = λ start feeds runs. (let were = c.feeds.invariant.stands start feeds runs in
          record {
            stands = stands-popped feed.leaves feed.has_ended feed.faults lists start.faults now later grows c.pop.new.self.items (Some c.in-Some-Some.feed) feeds raises
                (subst (λ slots. Stands feed.leaves feed.has_ended feed.faults lists start.faults now slots feeds) split were.stands);
            hands = omega (arith, were.hands, ap held split, held-push c.pop.new.self.items (Some c.in-Some-Some.feed), c.take_back.ensures.back);
          });
      files = c.take_back.ensures.kept ∙ c.feeds.invariant.files;
      hours = c.feeds.invariant.hours;
      window = c.feeds.invariant.window;
      grows = omega (arith, c.feeds.invariant.grows, grows);
      place = c.feeds.invariant.place;
    }

pub feeds-preserved : goal.feeds-preserved
feeds-preserved g c =
    let first = c.args.self.now in
    let old = c.feeds.self in
    let feed = g.G.Feed in
    let lists = lists_of (g.F.Folder.files first.folder.now) (arc_value first.slots.hours) first.slots.window in
    let now = g.F.Folder.faults old.folder.now in
    let split : old.slots.feeds.items ≡ c.pop.new.self.items ++ None ∷ []
    = c.pop.ensures.items ∙ ap (λ r. c.pop.new.self.items ++ option_to_list r) (c.in-Some-None.is ∙ ap Some c.in-Some-None.field-0-is) in
    let same : now ≤ now = omega arith in
    record {
      stands = λ start feeds runs. (let were = c.feeds.invariant.stands start feeds runs in
          record {
            stands = stands-popped feed.leaves feed.has_ended feed.faults lists start.faults now now same c.pop.new.self.items None feeds refl
                (subst (λ slots. Stands feed.leaves feed.has_ended feed.faults lists start.faults now slots feeds) split were.stands);
            hands = omega (arith, were.hands, ap held split, held-push c.pop.new.self.items None);
          });
      files = c.feeds.invariant.files;
      hours = c.feeds.invariant.hours;
      window = c.feeds.invariant.window;
      grows = c.feeds.invariant.grows;
      place = c.feeds.invariant.place;
    }

pub returns-in-None-clause-follow : goal.returns-in-None-clause-follow
returns-in-None-clause-follow g c start feeds runs =
    let first = c.args.self.now in
    let feed = g.G.Feed in
    all-follow feed.leaves feed.has_ended feed.faults (lists_of (g.F.Folder.files first.folder.now) (arc_value first.slots.hours) first.slots.window)
    start.faults (g.F.Folder.faults first.folder.now) first.slots.feeds.items feeds runs.stands

pub returns-in-None-clause-rose : goal.returns-in-None-clause-rose
returns-in-None-clause-rose g c start feeds runs =
    let first = c.args.self.now in
    let old = c.feeds.self in
    let feed = g.G.Feed in
    let none : length old.slots.feeds.items ≡ 0 = omega (arith, c.in-None.ensures.cases, old.slots.feeds.ok.0) in
    faults-rose feed.leaves feed.has_ended feed.faults (lists_of (g.F.Folder.files first.folder.now) (arc_value first.slots.hours) first.slots.window)
    start.faults (g.F.Folder.faults old.folder.now) old.slots.feeds.items feeds none (c.feeds.invariant.stands start feeds runs).stands

pub returns-in-None-clause-hands : goal.returns-in-None-clause-hands
returns-in-None-clause-hands g c start feeds runs =
    let old = c.feeds.self in
    let none : old.slots.feeds.items ≡ [] = empty-when_none old.slots.feeds.items (omega (arith, c.in-None.ensures.cases, old.slots.feeds.ok.0)) in
    (c.feeds.invariant.stands start feeds runs).hands ∙ ap (λ slots. start.hands + held slots) none ∙ add-zero start.hands
