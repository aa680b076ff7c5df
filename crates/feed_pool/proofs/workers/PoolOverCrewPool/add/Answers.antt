-- A feed was added whose list is that of its key, and nothing is taken of it.
use Rattle.std.proofs.Common.{◌≡◌, ◌∷◌, [], ◌++◌, ◌∙◌, ◌≤◌, length, Some, subst, sym, ap, rules, arith}
use Rattle.std.specs.Arc.{arc_value}
use Rattle.lean_io.specs.Told.{Files}
use Rattle.lean_items.specs.Taken.{Start}
use Rattle.work_scheduler.specs.Turns.{Stands}
use Rattle.feed_workers.specs.Shown.{shown}
use Rattle.feed_pool.specs.Lists.{list_of, lists_of}
use Rattle.feed_pool.specs.Crews.{told_of, show_all, is_open_in}
use Rattle.feed_pool.proofs.RunLemmas.{told-list}
use Rattle.feed_pool.proofs.CrewLemmas.{opened-added, manned-added, manned-later, told-leaves}
use Rattle.feed_pool.proofs.workers.PoolOverCrewPool.add.Goals as goal

pub returns-in-Ok-clause-opened : goal.returns-in-Ok-clause-opened
returns-in-Ok-clause-opened g c n =
    let seats = c.args.self.now.slots.seats.items in
    let seat = c.send_out-seat.result in
    let pushed : c.push_reserved.new.self.items ≡ seats ++ Some seat ∷ [] = search rules in
    let count : length seats ≡ c.len-number.result = search rules in
    rw pushed (opened-added seats seat c.len-number.result n count (ap (λ s. s.open_now) c.send_out-seat.ensures ∙ c.seat-seat.ensures.opened))

pub returns-in-Ok-clause-stands : goal.returns-in-Ok-clause-stands
unfolding list_of
returns-in-Ok-clause-stands g c start feeds manned =
    let pool = c.args.self.now in
    let seats = pool.slots.seats.items in
    let seat = c.send_out-seat.result in
    let hours = arc_value pool.slots.hours in
    let feed = g.G.Feed in
    let lists = lists_of (g.F.Folder.files pool.folder.now) hours pool.slots.window in
    let now : Start = record { faults = g.F.Folder.faults pool.folder.now; hands = g.F.Folder.hands pool.folder.now } in
    let later : Start = record { faults = g.F.Folder.faults c.hand.new.self; hands = g.F.Folder.hands c.hand.new.self } in
    let files : g.F.Folder.files c.hand.new.self ≡ g.F.Folder.files pool.folder.now = c.hand.ensures.kept in
    let pushed : c.push_reserved.new.self.items ≡ seats ++ Some seat ∷ [] = search rules in
    let count : length seats ≡ c.len-number.result = search rules in
    let kept : arc_value c.in_ok-hours.hours ≡ hours = search rules in
    let told : (f : Files) → g.F.Folder.files pool.folder.now ≡ Some f → feed.leaves c.in-Ok.feed (list_of f hours pool.slots.window c.args.key)
    = λ f e. subst (λ h. feed.leaves c.in-Ok.feed (list_of f h pool.slots.window c.args.key)) kept (c.in-Ok.ensures.leaves f (c.in_ok-hand.ensures.told ∙ e)) in
    let fresh : feed.faults c.in-Ok.feed ≡ 0 = c.in-Ok.ensures.same ∙ c.in_ok-hand.ensures.fresh.0 in
    let made : Stands (told_of lists c.args.key) 0 (shown c.seat-seat.result).origin
    = subst (λ n. Stands (told_of lists c.args.key) n (shown c.seat-seat.result).origin) fresh
    (c.seat-seat.ensures.stands (told_of lists c.args.key)
    (told-leaves lists c.args.key (feed.leaves c.in-Ok.feed) (told-list (g.F.Folder.files pool.folder.now) hours pool.slots.window c.args.key (feed.leaves c.in-Ok.feed) told))) in
    let stands : Stands (told_of lists c.args.key) 0 (shown seat).origin
    = subst (λ s. Stands (told_of lists c.args.key) 0 s.origin) (sym c.send_out-seat.ensures) made in
    rw (files, pushed) (manned-added lists start now later seats feeds c.len-number.result seat c.args.key count c.hand.ensures.same c.in_ok-hand.ensures.out
    (ap (λ s. s.items) c.send_out-seat.ensures ∙ c.seat-seat.ensures.items) stands manned)

pub returns-in-Err-clause-stands : goal.returns-in-Err-clause-stands
returns-in-Err-clause-stands g c start feeds manned =
    let pool = c.args.self.now in
    let seats = pool.slots.seats.items in
    let lists = lists_of (g.F.Folder.files pool.folder.now) (arc_value pool.slots.hours) pool.slots.window in
    let now : Start = record { faults = g.F.Folder.faults pool.folder.now; hands = g.F.Folder.hands pool.folder.now } in
    let later : Start = record { faults = g.F.Folder.faults c.take_back.new.self; hands = g.F.Folder.hands c.take_back.new.self } in
    let files : g.F.Folder.files c.take_back.new.self ≡ g.F.Folder.files pool.folder.now = c.take_back.ensures.kept ∙ c.hand.ensures.kept in
    let same : c.reserve.new.self.items ≡ seats = search rules in
    let grows : now.faults ≤ later.faults = omega (arith, c.hand.ensures.same, c.take_back.ensures.grows) in
    let back : later.hands ≡ now.hands = omega (arith, c.in_ok-hand.ensures.out, c.take_back.ensures.back) in
    rw (files, same) (manned-later lists start now later (show_all seats) feeds grows back manned)
