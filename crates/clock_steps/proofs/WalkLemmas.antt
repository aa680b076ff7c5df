-- Walks over moments that give nothing.
use Rattle.std.proofs.Common.{◌≡◌, ℕ, zero, suc, ◌+◌, ◌-◌, ◌<◌, ◌≤◌, List, [], ◌++◌, refl, ◌∙◌, subst, arith}
use Rattle.std.proofs.Common.{sym, ap}
use Rattle.std.specs.Prelude.{flat_map}
use Rattle.std.specs.List.{range_with_len}
use Rattle.std.proofs.lemmas.List.{append_assoc}
use Rattle.clock_steps.specs.Walks.{walk, IsIdle}

module _ {A : Type 0} (gives : ℕ → List A) where
  -- moments that give nothing
  none-given : (n from : ℕ) → ((t : ℕ) → from ≤ t → t < from + n → gives t ≡ []) → flat_map gives (range_with_len from n) ≡ []
  none-given zero from idle = refl
  none-given (suc n) from idle =
      rw (idle from (omega arith) (omega arith)) (none-given n (from + 1) (λ t low high. idle t (omega arith) (omega arith)))

  -- the same behind some moments that give nothing
  idle-given : (gap n from : ℕ) → ((t : ℕ) → from ≤ t → t < from + gap → gives t ≡ [])
      → flat_map gives (range_with_len from (gap + n)) ≡ flat_map gives (range_with_len (from + gap) n)
  idle-given zero n from idle =
      let e : zero + n ≡ n = omega arith in
      let f : from + zero ≡ from = omega arith in
      rw (e, f) refl
  idle-given (suc gap) n from idle =
      let e : suc gap + n ≡ suc (gap + n) = omega arith in
      let f : from + 1 + gap ≡ from + suc gap = omega arith in
      let h : flat_map gives (range_with_len (from + 1) (gap + n)) ≡ flat_map gives (range_with_len (from + suc gap) n)
      = subst (λ k. flat_map gives (range_with_len (from + 1) (gap + n)) ≡ flat_map gives (range_with_len k n)) f (idle-given gap n (from + 1) (λ t low high. idle t (omega arith) (omega arith))) in
      rw (e, idle from (omega arith) (omega arith)) h

  -- nothing is given between two moments
  pub walk-idle : (after until to : ℕ) → after < until → until ≤ to + 1 → IsIdle gives after until → walk gives (after + 1) to ≡ walk gives until to
  unfolding walk
  walk-idle after until to low high idle =
      let gap = until - (after + 1) in
      let e : to + 1 - (after + 1) ≡ gap + (to + 1 - until) = omega arith in
      let f : after + 1 + gap ≡ until = omega arith in
      rw e (subst (λ k. flat_map gives (range_with_len (after + 1) (gap + (to + 1 - until))) ≡ flat_map gives (range_with_len k (to + 1 - until))) f
      (idle-given gap (to + 1 - until) (after + 1) (λ t l h. idle t (omega arith) (omega arith))))

  -- what the first moment gives, and then the others
  pub walk-first : (from to : ℕ) → from ≤ to → walk gives from to ≡ gives from ++ walk gives (from + 1) to
  unfolding walk
  walk-first from to low =
      let e : to + 1 - from ≡ suc (to + 1 - (from + 1)) = omega arith in
      rw e refl

  -- the next moment that gives something, and what follows it
  pub walk-next : (after next to : ℕ) → after < next → next ≤ to → IsIdle gives after next → walk gives (after + 1) to ≡ gives next ++ walk gives (next + 1) to
  walk-next after next to low high idle = walk-idle after next to low (omega arith) idle ∙ walk-first next to high

  -- nothing is given up to the end
  pub walk-none : (after to : ℕ) → IsIdle gives after (to + 1) → walk gives (after + 1) to ≡ []
  unfolding walk
  walk-none after to idle = none-given (to + 1 - (after + 1)) (after + 1) (λ t l h. idle t (omega arith) (omega arith))

  -- what some moments give, and what those behind them give
  given-both : (m n from : ℕ) → flat_map gives (range_with_len from (m + n)) ≡ flat_map gives (range_with_len from m) ++ flat_map gives (range_with_len (from + m) n)
  given-both zero n from =
      let e : zero + n ≡ n = omega arith in
      let f : from + zero ≡ from = omega arith in
      rw (e, f) refl
  given-both (suc m) n from =
      let e : suc m + n ≡ suc (m + n) = omega arith in
      let f : from + 1 + m ≡ from + suc m = omega arith in
      let first = flat_map gives (range_with_len (from + 1) m) in
      let h : flat_map gives (range_with_len (from + 1) (m + n)) ≡ first ++ flat_map gives (range_with_len (from + suc m) n)
      = subst (λ k. flat_map gives (range_with_len (from + 1) (m + n)) ≡ first ++ flat_map gives (range_with_len k n)) f (given-both m n (from + 1)) in
      rw e (ap (λ xs. gives from ++ xs) h ∙ sym (append_assoc (gives from) first (flat_map gives (range_with_len (from + suc m) n))))

  -- a walk that is cut in two
  pub walk-cut : (from mid to : ℕ) → from ≤ mid + 1 → mid ≤ to → walk gives from to ≡ walk gives from mid ++ walk gives (mid + 1) to
  unfolding walk
  walk-cut from mid to low high =
      let e : to + 1 - from ≡ (mid + 1 - from) + (to + 1 - (mid + 1)) = omega arith in
      let f : from + (mid + 1 - from) ≡ mid + 1 = omega arith in
      rw e (subst (λ k. flat_map gives (range_with_len from ((mid + 1 - from) + (to + 1 - (mid + 1)))) ≡ flat_map gives (range_with_len from (mid + 1 - from)) ++ flat_map gives (range_with_len k (to + 1 - (mid + 1)))) f
      (given-both (mid + 1 - from) (to + 1 - (mid + 1)) from))

module _ {A : Type 0} (gives other : ℕ → List A) where
  given-alike : (n from : ℕ) → ((t : ℕ) → from ≤ t → t < from + n → gives t ≡ other t) → flat_map gives (range_with_len from n) ≡ flat_map other (range_with_len from n)
  given-alike zero from same = refl
  given-alike (suc n) from same =
      rw (same from (omega arith) (omega arith)) (ap (λ xs. other from ++ xs) (given-alike n (from + 1) (λ t low high. same t (omega arith) (omega arith))))

  -- moments that give the same
  pub walk-alike : (from to : ℕ) → ((t : ℕ) → from ≤ t → t ≤ to → gives t ≡ other t) → walk gives from to ≡ walk other from to
  unfolding walk
  walk-alike from to same = given-alike (to + 1 - from) from (λ t low high. same t low (omega arith))
