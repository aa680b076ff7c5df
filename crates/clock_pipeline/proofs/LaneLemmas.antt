-- Fronts of lists, and what a push and a pop leave of a lane.
use Rattle.std.proofs.Common.{◌≡◌, ℕ, ◌<◌, ◌≤◌, true, List, [], ◌∷◌, ◌++◌, length, refl, ap, sym, ◌∙◌, arith, append-nil, append_assoc, inl, inr, length-append}
use Rattle.std.specs.Prelude.{◌⊎◌, take, drop}
use Rattle.std.proofs.lemmas.List.{drop_at}
use Rattle.std.proofs.lemmas.Bool.Decides.{nat_tests}
use Rattle.clock_steps.specs.Runs.{IsFrontOf}
use Rattle.clock_pipeline.specs.Lanes.{Lane, next_of, held, has_room, with_sent, with_taken, IsLane}

module _ {X : Type 0} where
  pub front-whole : (xs : List X) → IsFrontOf xs xs
  front-whole xs = record { rest = []; is = sym (append-nil xs) }

  pub front-none : (xs : List X) → IsFrontOf [] xs
  front-none xs = record { rest = xs; is = refl }

  pub front-more : (xs ys : List X) → IsFrontOf xs (xs ++ ys)
  front-more xs ys = record { rest = ys; is = refl }

  pub front-of : {xs ys zs : List X} → IsFrontOf xs ys → IsFrontOf ys zs → IsFrontOf xs zs
  front-of {xs} {ys} {zs} first second = record {
    rest = first.rest ++ second.rest;
    is = second.is ∙ ap (λ l. l ++ second.rest) first.is ∙ append_assoc xs first.rest second.rest;
  }

  pub front-length : {xs ys : List X} → IsFrontOf xs ys → length xs ≤ length ys
  front-length {xs} {ys} front = omega (arith, ap length front.is, length-append xs front.rest)

  -- a front that is as long is the whole
  pub front-same : {xs ys : List X} → IsFrontOf xs ys → length ys ≤ length xs → xs ≡ ys
  front-same {xs} {ys} front long = by front.rest front.is
    where
      by : (rest : List X) → ys ≡ xs ++ rest → xs ≡ ys
      by [] is = sym (is ∙ append-nil xs)
      by (x ∷ rest) is = absurd (omega (arith, long, ap length is, length-append xs (x ∷ rest)))

  parted : (xs : List X) → xs ≡ take 1 xs ++ drop 1 xs
  parted [] = refl
  parted (x ∷ xs) = refl

  few : (xs : List X) → length (take 1 xs) ≤ 1
  few [] = omega arith
  few (x ∷ xs) = omega arith

  fewer : (xs : List X) → length (drop 1 xs) ≤ length xs
  fewer [] = omega arith
  fewer (x ∷ xs) = omega arith

  pub next-few : (front whole : List X) → length (next_of front whole) ≤ 1
  unfolding next_of
  next-few front whole = few (drop (length front) whole)

  next-is : (front whole rest : List X) → whole ≡ front ++ rest → next_of front whole ≡ take 1 rest
  unfolding next_of
  next-is front whole rest is = ap (take 1) (ap (drop (length front)) is ∙ drop_at front rest (length front) refl)

  next-rest : (front whole rest : List X) → whole ≡ front ++ rest → whole ≡ (front ++ next_of front whole) ++ drop 1 rest
  next-rest front whole rest is =
      is ∙ ap (λ l. front ++ l) (parted rest ∙ ap (λ l. l ++ drop 1 rest) (sym (next-is front whole rest is)))
      ∙ sym (append_assoc front (next_of front whole) (drop 1 rest))

  -- a front with what comes next
  pub front-next : {front whole : List X} → IsFrontOf front whole → IsFrontOf (front ++ next_of front whole) whole
  front-next {front} {whole} is = record { rest = drop 1 is.rest; is = next-rest front whole is.rest is.is }

  -- a pop and a push
  pub lane-taken : (capacity : ℕ) (lane : Lane X) → IsLane capacity lane → IsLane capacity (with_taken lane)
  lane-taken capacity lane is = record {
    rest = drop 1 is.rest;
    is = next-rest lane.taken lane.sent is.rest is.is;
    within = omega (arith, is.within, fewer is.rest);
  }

  held-is : (capacity : ℕ) (lane : Lane X) (is : IsLane capacity lane) → held lane ≡ is.rest
  unfolding held
  held-is capacity lane is = ap (drop (length lane.taken)) is.is ∙ drop_at lane.taken is.rest (length lane.taken) refl

  pub lane-sent : (capacity : ℕ) (lane : Lane X) (items : List X) → IsLane capacity lane → has_room capacity lane ≡ true → length items ≤ 1
      → IsLane capacity (with_sent items lane)
  lane-sent capacity lane items is room one =
      let low : length (held lane) < capacity = grind (arith, nat_tests) in
      record {
        rest = is.rest ++ items;
        is = ap (λ l. l ++ items) is.is ∙ append_assoc lane.taken is.rest items;
        within = omega (arith, length-append is.rest items, ap length (held-is capacity lane is), low, one);
      }

  pub lane-front : (capacity : ℕ) (lane : Lane X) → IsLane capacity lane → IsFrontOf lane.taken lane.sent
  lane-front capacity lane is = record { rest = is.rest; is = is.is }

  -- a front of a list with one more item at its end is the whole, or a front of the list
  pub front-last : (xs rest ys : List X) (y : X) → ys ++ y ∷ [] ≡ xs ++ rest → (xs ≡ ys ++ y ∷ []) ⊎ IsFrontOf xs ys
  front-last [] rest ys y is = inr (front-none ys)
  front-last (x ∷ xs) rest [] y is = inl (one xs rest is)
    where
      one : (xs rest : List X) → y ∷ [] ≡ x ∷ xs ++ rest → x ∷ xs ≡ y ∷ []
      one [] rest is = cc
      one (z ∷ zs) rest is = absurd (let no : length (y ∷ []) ≡ length (x ∷ (z ∷ zs) ++ rest) = ap length is in omega (arith, no))
  front-last (x ∷ xs) rest (z ∷ ys) y is =
      let head : z ≡ x = cc in
      let tail : ys ++ y ∷ [] ≡ xs ++ rest = cc in
      elim (front-last xs rest ys y tail) [
        | inl whole ↦ inl ((λ i. sym head i ∷ whole i))
        | inr front ↦ inr (record { rest = front.rest; is = (λ i. head i ∷ front.is i) })
      ]
