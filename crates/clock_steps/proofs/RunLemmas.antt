-- Runs that are cut, that rest, and that go on behind steps in which nothing happens.
use Rattle.std.proofs.Common.{◌≡◌, ℕ, zero, suc, ◌+◌, ◌<◌, ◌≤◌, List, [], ◌++◌, refl, ap, sym, ◌∙◌, subst, arith, append-nil}
use Rattle.std.specs.Prelude.{Option, Some, None}
use Rattle.std.proofs.lemmas.List.{append_assoc}
use Rattle.clock_steps.specs.Runs.{Ran, rests, behind, then_on, before, run, IsStill, IsFrontOf}

module _ {S L Z : Type 0} where
  -- what is put behind lines twice, and what is run behind it
  pub behind-twice : (xs ys : List L) (r : Ran S L Z) → behind xs (behind ys r) ≡ behind (xs ++ ys) r
  behind-twice xs ys r = ap (λ ls. record { lines = ls; state = r.state; stop = r.stop }) (sym (append_assoc xs ys r.lines))

  behind-then_on : (xs ys : List L) (s : S) (z : Option Z) (later : S → Ran S L Z) → then_on (xs ++ ys) s z later ≡ behind xs (then_on ys s z later)
  behind-then_on xs ys s None later = sym (behind-twice xs ys (later s))
  behind-then_on xs ys s (Some z) later = refl

  pub before-behind : (xs : List L) (r : Ran S L Z) (later : S → Ran S L Z) → before (behind xs r) later ≡ behind xs (before r later)
  before-behind xs r later = behind-then_on xs r.lines r.state r.stop later

  then_on-rests : (ls : List L) (s : S) (z : Option Z) → then_on ls s z rests ≡ record { lines = ls; state = s; stop = z }
  then_on-rests ls s None = ap (λ xs. record { lines = xs; state = s; stop = None }) (append-nil ls)
  then_on-rests ls s (Some z) = refl

  pub before-rests : (r : Ran S L Z) → before r rests ≡ r
  before-rests r = then_on-rests r.lines r.state r.stop

  -- a run behind a run behind a run
  then_on-before : (ls : List L) (s : S) (z : Option Z) (next later : S → Ran S L Z)
      → before (then_on ls s z next) later ≡ then_on ls s z (λ t. before (next t) later)
  then_on-before ls s None next later = before-behind ls (next s) later
  then_on-before ls s (Some z) next later = refl

  pub before-before : (r : Ran S L Z) (next later : S → Ran S L Z) → before (before r next) later ≡ before r (λ t. before (next t) later)
  before-before r next later = then_on-before r.lines r.state r.stop next later

  then_on-same : (ls : List L) (s : S) (z : Option Z) (f g : S → Ran S L Z) → ((t : S) → f t ≡ g t) → then_on ls s z f ≡ then_on ls s z g
  then_on-same ls s None f g same = ap (behind ls) (same s)
  then_on-same ls s (Some z) f g same = refl

  pub before-same : (r : Ran S L Z) (f g : S → Ran S L Z) → ((t : S) → f t ≡ g t) → before r f ≡ before r g
  before-same r f g same = then_on-same r.lines r.state r.stop f g same

module _ {S L Z : Type 0} (step : ℕ → S → Ran S L Z) where
  -- a run that is cut in two
  pub run-cut : (m n from : ℕ) (s : S) → run step (m + n) from s ≡ before (run step m from s) (run step n (from + m))
  unfolding run
  run-cut zero n from s =
      let e : zero + n ≡ n = omega arith in
      let f : from + zero ≡ from = omega arith in
      rw (e, f) refl
  run-cut (suc m) n from s =
      let e : suc m + n ≡ suc (m + n) = omega arith in
      let f : from + 1 + m ≡ from + suc m = omega arith in
      let later : (t : S) → run step (m + n) (from + 1) t ≡ before (run step m (from + 1) t) (run step n (from + suc m))
      = λ t. subst (λ k. run step (m + n) (from + 1) t ≡ before (run step m (from + 1) t) (run step n k)) f (run-cut m n (from + 1) t) in
      rw e (before-same (step from s) _ _ later ∙ sym (before-before (step from s) (run step m (from + 1)) (run step n (from + suc m))))

  -- one step is the step
  pub run-one : (from : ℕ) (s : S) → run step 1 from s ≡ step from s
  unfolding run
  run-one from s = before-rests (step from s)

  -- steps in which nothing happens change nothing
  pub run-still : (n from : ℕ) (s : S) → IsStill step s from (from + n) → run step n from s ≡ rests s
  unfolding run
  run-still zero from s still = refl
  run-still (suc n) from s still =
      rw (still from (omega arith) (omega arith))
      (run-still n (from + 1) s (λ t low high. still t (omega arith) (omega arith)))

  -- a run that did not stop goes on behind steps in which nothing happens
  pub run-next : (n gap from : ℕ) (s t : S) (lines : List L)
      → run step n from s ≡ record { lines = lines; state = t; stop = None }
      → IsStill step t (from + n) (from + n + gap)
      → run step (n + gap + 1) from s ≡ behind lines (step (from + n + gap) t)
  run-next n gap from s t lines so_far still =
      run-cut (n + gap) 1 from s
      ∙ ap (λ r. before r (run step 1 (from + (n + gap)))) (run-cut n gap from s ∙ ap (λ r. before r (run step gap (from + n))) so_far ∙ ap (behind lines) (run-still gap (from + n) t still) ∙ ap (λ ls. record { lines = ls; state = t; stop = None }) (append-nil lines))
      ∙ ap (behind lines) (run-one (from + (n + gap)) t ∙ ap (λ k. step k t) (omega arith))

  -- and is whole where nothing happens in what follows
  pub run-end : (n gap from : ℕ) (s t : S) (lines : List L)
      → run step n from s ≡ record { lines = lines; state = t; stop = None }
      → IsStill step t (from + n) (from + n + gap)
      → run step (n + gap) from s ≡ record { lines = lines; state = t; stop = None }
  run-end n gap from s t lines so_far still =
      run-cut n gap from s
      ∙ ap (λ r. before r (run step gap (from + n))) so_far
      ∙ ap (behind lines) (run-still gap (from + n) t still)
      ∙ ap (λ ls. record { lines = ls; state = t; stop = None }) (append-nil lines)

  -- a run that stopped is whole
  pub run-stopped : (n more from : ℕ) (s t : S) (lines : List L) (z : Z)
      → run step n from s ≡ record { lines = lines; state = t; stop = Some z }
      → run step (n + more) from s ≡ record { lines = lines; state = t; stop = Some z }
  run-stopped n more from s t lines z so_far =
      run-cut n more from s ∙ ap (λ r. before r (run step more (from + n))) so_far

  front-then_on : (ls : List L) (s : S) (z : Option Z) (later : S → Ran S L Z) → IsFrontOf ls (then_on ls s z later).lines
  front-then_on ls s None later = record { rest = (later s).lines; is = refl }
  front-then_on ls s (Some z) later = record { rest = []; is = sym (append-nil ls) }

  -- what was printed when a run was cut is a front of what it prints
  pub run-front : (m n from : ℕ) (s : S) → IsFrontOf (run step m from s).lines (run step (m + n) from s).lines
  run-front m n from s =
      let first = run step m from s in
      subst (λ r. IsFrontOf first.lines r.lines) (sym (run-cut m n from s)) (front-then_on first.lines first.state first.stop (run step n (from + m)))

module _ {S L Z : Type 0} where
  -- steps that are the same from some step on run alike from there
  pub run-same : (step other : ℕ → S → Ran S L Z) (n from : ℕ) (s : S)
      → ((t : ℕ) (u : S) → from ≤ t → t < from + n → step t u ≡ other t u) → run step n from s ≡ run other n from s
  unfolding run
  run-same step other zero from s same = refl
  run-same step other (suc n) from s same =
      rw (same from s (omega arith) (omega arith))
      (before-same (other from s) _ _ (λ u. run-same step other n (from + 1) u (λ t v low high. same t v (omega arith) (omega arith))))
