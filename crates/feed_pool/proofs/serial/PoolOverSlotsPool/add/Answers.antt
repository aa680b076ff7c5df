-- A feed was added whose list is that of its key, and nothing is taken of it.
use Rattle.std.proofs.Common.{◌≡◌, ◌∷◌, [], ◌++◌, ◌∙◌, length, Some, subst, rules, arith}
use Rattle.std.specs.Arc.{arc_value}
use Rattle.lean_io.specs.Told.{Files}
use Rattle.feed_pool.specs.Lists.{list_of, lists_of}
use Rattle.feed_pool.proofs.HandLemmas.{held-push}
use Rattle.feed_pool.proofs.RunLemmas.{stands-added, told-list}
use Rattle.feed_pool.proofs.serial.PoolOverSlotsPool.add.Goals as goal

pub returns-in-Ok-clause-stands : goal.returns-in-Ok-clause-stands
unfolding list_of
returns-in-Ok-clause-stands g c start feeds runs =
    let pool = c.args.self.now in
    let slots = pool.slots.feeds.items in
    let hours = arc_value pool.slots.hours in
    let feed = g.G.Feed in
    let now = g.F.Folder.faults pool.folder.now in
    let files : g.F.Folder.files c.hand.new.self ≡ g.F.Folder.files pool.folder.now = c.hand.ensures.kept in
    let same : g.F.Folder.faults c.hand.new.self ≡ now = c.hand.ensures.same in
    let pushed : c.push_reserved.new.self.items ≡ slots ++ Some c.in-Ok.feed ∷ [] = search rules in
    let count : length slots ≡ c.len-number.result = search rules in
    let kept : arc_value c.in_ok-hours.hours ≡ hours = search rules in
    let told : (f : Files) → g.F.Folder.files pool.folder.now ≡ Some f → feed.leaves c.in-Ok.feed (list_of f hours pool.slots.window c.args.key)
    = λ f e. subst (λ h. feed.leaves c.in-Ok.feed (list_of f h pool.slots.window c.args.key)) kept (c.in-Ok.ensures.leaves f (c.in_ok-hand.ensures.told ∙ e)) in
    record {
      stands = rw (files, same, pushed) (stands-added feed.leaves feed.has_ended feed.faults (lists_of (g.F.Folder.files pool.folder.now) hours pool.slots.window)
          start.faults now slots feeds c.len-number.result c.in-Ok.feed c.args.key count c.in-Ok.ensures.open
          (told-list (g.F.Folder.files pool.folder.now) hours pool.slots.window c.args.key (feed.leaves c.in-Ok.feed) told) runs.stands);
      hands = rw pushed (omega (arith, c.in_ok-hand.ensures.out, runs.hands, held-push slots (Some c.in-Ok.feed)));
    }
