-- Turns that run on, and come home.
use Rattle.std.proofs.Common.{◌≡◌, List, [], ◌∷◌, ◌++◌, take, get_or, ap, ◌∙◌, subst, arith}
use Rattle.std.specs.Prelude.{Option, Some, None}
use Rattle.std.specs.List.{All}
use Rattle.std.proofs.Math.Logic.{∥∥₁_map}
use Rattle.lean_items.specs.declared.feeds.Feed.{Ghosts}
use Rattle.work_scheduler.specs.declared.turn.Turn.{Turn}
use Rattle.work_scheduler.specs.Turns.{RanOn}
use Rattle.feed_workers.specs.Homes.{HasRun, RanFrom}

-- the first of a list stays the first
pub first-append : {X : Type 0} (x : X) (xs ys : List X) → take 1 xs ≡ x ∷ [] → take 1 (xs ++ ys) ≡ x ∷ []
first-append x [] ys first = (let e : [] ≡ x ∷ [] = first in absurd cc)
first-append x (y ∷ xs) ys first = first

pub first-has : {X : Type 0} (P : X → Type 0) (x : X) (xs : List X) → take 1 xs ≡ x ∷ [] → All P xs → P x
first-has P x [] first all = (let e : [] ≡ x ∷ [] = first in absurd cc)
first-has P x (y ∷ xs) first all = (let e : y ∷ [] ≡ x ∷ [] = first in
    subst P (ap (λ l. get_or l 0 x) e) (all 0 x (omega arith)))

module _ {G : Type 0} {feed : Ghosts G} where
  pub ran-then : (a b c : Turn G feed) → RanOn a b → RanOn b c → RanOn a c
  ran-then a b c ab bc = record {
    lane = bc.lane ∙ ab.lane;
    capacity = bc.capacity ∙ ab.capacity;
    grows = omega (arith, ab.grows, bc.grows);
    stands = λ told before stands. bc.stands told before (ab.stands told before stands);
  }

  pub run-then : (a b c : Turn G feed) → HasRun a b → RanOn b c → HasRun a c
  run-then a b c ab bc = ∥∥₁_map ab (λ ran. ran-then a b c ran bc)

  pub from-then : (earlier : List (Turn G feed)) (b c : Turn G feed) → RanFrom earlier b → RanOn b c → RanFrom earlier c
  from-then earlier b c from bc = λ k d within. run-then (get_or earlier k d) b c (from k d within) bc

  -- a turn that is here, and ran on
  pub here-then : (origin a b turn : Turn G feed) → HasRun origin a → RanOn a b → Some b ≡ Some turn → HasRun origin turn
  here-then origin a b turn has ran is =
      subst (λ t. HasRun origin t) (ap (λ o. some_or o b) is) (run-then origin a b has ran)
    where
      some_or : Option (Turn G feed) → Turn G feed → Turn G feed
      some_or None d = d
      some_or (Some t) d = t

  pub here-came : (origin a turn : Turn G feed) (earlier : List (Turn G feed)) → take 1 earlier ≡ origin ∷ [] → RanFrom earlier a → Some a ≡ Some turn
      → HasRun origin turn
  here-came origin a turn earlier first from is =
      subst (λ t. HasRun origin t) (ap (λ o. some_or o a) is) (first-has (λ t. HasRun t a) origin earlier first from)
    where
      some_or : Option (Turn G feed) → Turn G feed → Turn G feed
      some_or None d = d
      some_or (Some t) d = t
