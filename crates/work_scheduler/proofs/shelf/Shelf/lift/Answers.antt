-- The only turn of the feed is gone.
use Rattle.std.proofs.Common.{◌≡◌, ◌<◌, ◌≤◌, ◌∷◌, [], ◌==◌, ℕ, length, get_or, if◌then◌else◌, ap, sym, subst, ◌∙◌, arith}
use Rattle.std.specs.List.{HoldsAt}
use Rattle.work_scheduler.specs.Placings.{numbered}
use Rattle.work_scheduler.proofs.PlacingLemmas.{numbered-gone, numbered-alone, gone-once, same-placing}
use Rattle.work_scheduler.proofs.shelf.Shelf.lift.Goals as goal

pub invariant_of-self : goal.invariant_of-self
invariant_of-self g c =
    let shelf = c.args.self.now in
    let old = shelf.turns.items in
    let place = c.in-Some.place in
    let there : (place < length old) × HoldsAt (λ p. p.feed.0 ≡ c.args.feed.0) old place
    = subst (λ l. (place < length l) × HoldsAt (λ p. p.feed.0 ≡ c.args.feed.0) l place) c.as_slice.ensures.value c.in-Some.ensures in
    let gone : (k : ℕ) → numbered k c.remove-turn.new.self.items ≡ (if c.args.feed.0 == k then [] else numbered k old)
    = λ k. ap (numbered k) c.remove-turn.ensures.items
    ∙ numbered-gone old place c.remove-turn.result c.args.feed.0 there.0 (there.1 c.remove-turn.result) (shelf.each_once c.args.feed.0) k in
    record {
      each_once = λ k. subst (λ l. length l ≤ 1) (sym (gone k)) (gone-once (c.args.feed.0 == k) (numbered k old) (shelf.each_once k));
      within = omega (arith, shelf.within, c.remove-turn.ensures.len);
      places = omega (arith, shelf.places, c.remove-turn.ensures.capacity);
      places_for_rooms = shelf.places_for_rooms;
    }

pub returns-in-Some-clause-turn : goal.returns-in-Some-clause-turn
returns-in-Some-clause-turn g c =
    let shelf = c.args.self.now in
    let old = shelf.turns.items in
    let place = c.in-Some.place in
    let lifted = c.remove-turn.result in
    let there : (place < length old) × HoldsAt (λ p. p.feed.0 ≡ c.args.feed.0) old place
    = subst (λ l. (place < length l) × HoldsAt (λ p. p.feed.0 ≡ c.args.feed.0) l place) c.as_slice.ensures.value c.in-Some.ensures in
    let is : get_or old place lifted ≡ lifted = sym c.remove-turn.ensures.value in
    let number : lifted.feed.0 ≡ c.args.feed.0 = subst (λ p. p.feed.0 ≡ c.args.feed.0) is (there.1 lifted) in (
      numbered-alone old place lifted c.args.feed.0 there.0 (there.1 lifted) (shelf.each_once c.args.feed.0)
          ∙ ap (λ p. p ∷ []) (is ∙ same-placing lifted c.args.feed number),
      (λ k. ap (numbered k) c.remove-turn.ensures.items
          ∙ numbered-gone old place lifted c.args.feed.0 there.0 (there.1 lifted) (shelf.each_once c.args.feed.0) k),
      omega (arith, c.remove-turn.ensures.len, c.remove-turn.new.self.ok.0, shelf.turns.ok.0),
    )
