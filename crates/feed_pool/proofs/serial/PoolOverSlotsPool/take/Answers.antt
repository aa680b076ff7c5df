-- One more item was taken of a feed.
use Rattle.std.proofs.Common.{◌+◌, ◌<◌, get_or, length, None, sym, ap, ◌∙◌, subst}
use Rattle.std.proofs.lemmas.List.{get_or_read}
use Rattle.std.specs.Arc.{arc_value}
use Rattle.feed_pool.specs.Lists.{lists_of}
use Rattle.feed_pool.specs.Running.{Gave, one}
use Rattle.feed_pool.proofs.HandLemmas.{held-taken}
use Rattle.feed_pool.proofs.RunLemmas.{is-within, stands-taken}
use Rattle.feed_pool.proofs.serial.PoolOverSlotsPool.take.Goals as goal

pub returns-clause-stands : goal.returns-clause-stands
returns-clause-stands g c start feeds runs =
    let pool = c.args.self.now in
    let slots = pool.slots.feeds.items in
    let feed = g.G.Feed in
    let within : c.args.feed.0 < length slots = is-within feed.has_ended slots c.args.feed.0 c.requires in
    let there = get_or_read slots c.args.feed.0 c.index_mut.result.now within c.index_mut.ensures.value None in
    let gave : Gave feed.leaves feed.has_ended feed.faults feed.room (get_or slots c.args.feed.0 None) c.next_of.new.slot c.next_of.result
    = subst (λ x. Gave feed.leaves feed.has_ended feed.faults feed.room x c.next_of.new.slot c.next_of.result) there c.next_of.ensures in
    record {
      stands = stands-taken feed.leaves feed.has_ended feed.faults (lists_of (g.F.Folder.files pool.folder.now) (arc_value pool.slots.hours) pool.slots.window)
          start.faults (g.F.Folder.faults pool.folder.now) feed.room slots feeds c.args.feed.0 c.next_of.new.slot c.next_of.result c.requires gave runs.stands;
      hands = runs.hands ∙ ap (λ n. start.hands + n) (sym (held-taken slots c.args.feed.0 c.next_of.new.slot within (ap one gave.there) (ap one gave.still)));
    }
