-- The turn stands among the others.
use Rattle.std.proofs.Common.{◌≡◌, ◌<◌, ◌≤◌, ◌==◌, length, vec_len, if◌then◌else◌, true, ap, sym, subst, ◌∙◌, arith, ◌+◌}
use Rattle.std.specs.Prelude.{is_ok}
use Rattle.std.specs.List.{insert}
use Rattle.work_scheduler.specs.declared.placing.Placing.{Placing}
use Rattle.work_scheduler.specs.Placings.{numbered}
use Rattle.work_scheduler.proofs.PlacingLemmas.{numbered-put, once-cases}
use Rattle.work_scheduler.proofs.shelf.Shelf.place.Goals as goal

pub invariant_of-self : goal.invariant_of-self
invariant_of-self g c =
    let shelf = c.args.self.now in
    let old = shelf.turns.items in
    let place = c.seat_of-place.result in
    let p : Placing g.row.G.Denot g.G.Feed = record { feed = c.args.feed; turn = c.args.turn } in
    let less : vec_len shelf.turns < shelf.capacity = omega (arith, c.if-len-self.false, c.len.ensures, shelf.within) in
    let ok : is_ok c.insert.result ≡ true = c.insert.ensures.succeeds (omega (arith, less, shelf.places)) in
    let items : c.insert.new.self.items ≡ insert old place p
    = subst (λ b. c.insert.new.self.items ≡ (if b then insert old place p else old)) ok c.insert.ensures.items in
    let longer : vec_len c.insert.new.self ≡ vec_len shelf.turns + 1
    = subst (λ b. vec_len c.insert.new.self ≡ (if b then vec_len shelf.turns + 1 else vec_len shelf.turns)) ok c.insert.ensures.len in
    record {
      each_once = λ k. subst (λ l. length l ≤ 1) (sym (ap (numbered k) items ∙ numbered-put old place p c.requires k))
          (once-cases (c.args.feed.0 == k) p (numbered k old) (shelf.each_once k));
      within = omega (arith, longer, less);
      places = omega (arith, shelf.places, c.insert.ensures.capacity);
      places_for_rooms = shelf.places_for_rooms;
    }

pub returns-clause-turns : goal.returns-clause-turns
returns-clause-turns g c k =
    let old = c.args.self.now.turns.items in
    let place = c.seat_of-place.result in
    let p : Placing g.row.G.Denot g.G.Feed = record { feed = c.args.feed; turn = c.args.turn } in
    let items : c.insert.new.self.items ≡ insert old place p = c.in-Ok.ensures.items in
    ap (numbered k) items ∙ numbered-put old place p c.requires k
