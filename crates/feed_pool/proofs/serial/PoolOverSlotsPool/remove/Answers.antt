-- The hand of the feed was given back.
use Rattle.std.proofs.Common.{◌≡◌, ◌≤◌, ◌<◌, ◌∙◌, get_or, length, None, Some, ap, sym, refl, subst, arith}
use Rattle.std.proofs.lemmas.List.{get_or_read}
use Rattle.std.specs.Arc.{arc_value}
use Rattle.lean_fixed.specs.Counts.{raised}
use Rattle.feed_pool.specs.Lists.{lists_of}
use Rattle.feed_pool.specs.Running.{counted}
use Rattle.feed_pool.proofs.HandLemmas.{held-removed}
use Rattle.feed_pool.proofs.RunLemmas.{stands-removed}
use Rattle.feed_pool.proofs.serial.PoolOverSlotsPool.remove.Goals as goal

pub returns-in-Some-clause-stands : goal.returns-in-Some-clause-stands
returns-in-Some-clause-stands g c start feeds runs =
    let pool = c.args.self.now in
    let slots = pool.slots.feeds.items in
    let feed = g.G.Feed in
    let now = g.F.Folder.faults pool.folder.now in
    let later = g.F.Folder.faults c.take_back.new.self in
    let lists = lists_of (g.F.Folder.files pool.folder.now) (arc_value pool.slots.hours) pool.slots.window in
    let within : c.args.feed.0 < length slots = omega (arith, pool.slots.feeds.ok.0) in
    let there : Some c.in-Some.feed ≡ get_or slots c.args.feed.0 None
    = sym c.in-Some.is ∙ c.take.ensures.value ∙ get_or_read slots c.args.feed.0 c.index_mut.result.now within c.index_mut.ensures.value None in
    let grows : now ≤ later = c.take_back.ensures.grows in
    let raises : later ≡ raised now (feed.faults c.in-Some.feed) = c.take_back.ensures.raised ∙ ap (raised now) c.into_hand.ensures in
    let count : later ≡ counted feed.faults (get_or slots c.args.feed.0 None) now = subst (λ x. later ≡ counted feed.faults x now) there raises in
    let files : g.F.Folder.files c.take_back.new.self ≡ g.F.Folder.files pool.folder.now = c.take_back.ensures.kept in
    record {
      stands = rw (files, c.take.ensures.after) (stands-removed feed.leaves feed.has_ended feed.faults lists start.faults now later grows slots feeds c.args.feed.0 within count runs.stands);
      hands = rw c.take.ensures.after (held-removed slots c.args.feed.0 start.hands (g.F.Folder.hands pool.folder.now) (g.F.Folder.hands c.take_back.new.self) (Some c.in-Some.feed) within
          (sym there) refl runs.hands c.take_back.ensures.back);
    }
