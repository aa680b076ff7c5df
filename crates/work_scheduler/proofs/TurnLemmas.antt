-- A turn that went on.
use Rattle.std.proofs.Common.{◌≡◌, ℕ, ◌+◌, ◌≤◌, List, ◌++◌, length, refl, sym, ap, ◌∙◌, subst, append_assoc, length-append, arith}
use Rattle.lean_items.specs.declared.feeds.Feed.{Ghosts}
use Rattle.lean_items.specs.declared.item.Item.{Item}
use Rattle.work_scheduler.specs.declared.turn.Turn.{Turn}
use Rattle.work_scheduler.specs.Served.{IsServed}
use Rattle.work_scheduler.specs.Turns.{given_of, turn_lane, room_of_lane, RanOn, SentMore}

pub sent-then : (n m : ℕ) (a b c : List Item) → SentMore n a b → SentMore m b c → SentMore (n + m) a c
sent-then n m a b c ab bc = (
  ab.0 ++ bc.0,
  (let long : length (ab.0 ++ bc.0) ≡ length ab.0 + length bc.0 = length-append ab.0 bc.0 in omega (arith, long, ab.1, bc.1)),
  bc.2 ∙ ap (λ l. l ++ bc.0) ab.2 ∙ append_assoc a ab.0 bc.0,
)

module _ {G : Type 0} {feed : Ghosts G} where
  pub ran-refl : (a : Turn G feed) → RanOn a a
  ran-refl a = record {
    lane = refl;
    capacity = refl;
    grows = omega arith;
    stands = λ told before stands. stands;
  }

  pub ran-then : (a b c : Turn G feed) → RanOn a b → RanOn b c → RanOn a c
  ran-then a b c ab bc = record {
    lane = bc.lane ∙ ab.lane;
    capacity = bc.capacity ∙ ab.capacity;
    grows = omega (arith, ab.grows, bc.grows);
    stands = λ told before stands. bc.stands told before (ab.stands told before stands);
  }

  -- the feed gave nothing more
  pub ran-still : (a b c : Turn G feed) → RanOn a b → c.feed ≡ b.feed → given_of c ≡ given_of b → turn_lane c ≡ turn_lane b → room_of_lane c ≡ room_of_lane b
      → RanOn a c
  ran-still a b c ab feeds given lane capacity = record {
    lane = lane ∙ ab.lane;
    capacity = capacity ∙ ab.capacity;
    grows = (let grows = ab.grows in subst (λ f. feed.faults a.feed ≤ feed.faults f) (sym feeds) grows);
    stands = λ told before stands. (let there = ab.stands told before stands in
        subst (λ (x : G × List Item). IsServed feed.leaves feed.has_ended feed.faults told before x.0 x.1) (λ i. (sym feeds i, sym given i)) there);
  }
