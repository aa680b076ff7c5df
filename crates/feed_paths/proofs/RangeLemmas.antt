-- Filters over neighbouring numbers.
use Rattle.std.proofs.Common.{ℕ, zero, suc, ◌+◌, ◌-◌, ◌<◌, ◌≤◌, ◌≡◌, max, Bool, true, false, cond, nat_lt, List, [], ◌∷◌, filter, inl, inr, refl, sym, ap, ◌∙◌, arith}
use Rattle.std.specs.List.{range_with_len}
use Rattle.std.specs.List.Sorted.{IsStrictlyIncreasing}
use Rattle.std.proofs.lemmas.List.FromFn.{length-range_with_len, get_or-range_with_len}
use Rattle.std.proofs.lemmas.Bool.{cases_lt, lt-ltb, le-ltb}

module _ (p : ℕ → Bool) where
  -- the numbers from one on and before another that pass the test
  abbrev pub passing : ℕ → ℕ → List ℕ
  passing from end = filter p (range_with_len from (end - from))

  -- none of some numbers passes
  pub none_pass : (from count : ℕ) → ((d : ℕ) → from ≤ d → d < from + count → p d ≡ false) → filter p (range_with_len from count) ≡ []
  none_pass from zero h = refl
  none_pass from (suc count) h =
      ap (λ b. cond b (from ∷ filter p (range_with_len (from + 1) count)) (filter p (range_with_len (from + 1) count))) (h from (omega arith) (omega arith))
      ∙ none_pass (from + 1) count (λ d l m. h d (omega arith) (omega arith))

  -- the first of some numbers passes, or does not
  pub first_passes : (from end : ℕ) → from < end → p from ≡ true → passing from end ≡ from ∷ passing (from + 1) end
  first_passes from end l e =
      let count : end - from ≡ suc (end - (from + 1)) = omega arith in
      ap (λ n. filter p (range_with_len from n)) count
      ∙ ap (λ b. cond b (from ∷ passing (from + 1) end) (passing (from + 1) end)) e

  first_fails : (from end : ℕ) → from < end → p from ≡ false → passing from end ≡ passing (from + 1) end
  first_fails from end l e =
      let count : end - from ≡ suc (end - (from + 1)) = omega arith in
      ap (λ n. filter p (range_with_len from n)) count
      ∙ ap (λ b. cond b (from ∷ passing (from + 1) end) (passing (from + 1) end)) e

  -- what passes stands behind numbers that do not
  pub skipped : (k from to end : ℕ) → from + k ≡ to → to ≤ end → ((d : ℕ) → from ≤ d → d < to → p d ≡ false) → passing from end ≡ passing to end
  skipped zero from to end e l h = let same : from ≡ to = omega arith in ap (λ f. passing f end) same
  skipped (suc k) from to end e l h =
      first_fails from end (omega arith) (h from (omega arith) (omega arith))
      ∙ skipped k (from + 1) to end (omega arith) l (λ d a b. h d (omega arith) b)

  -- a number is kept where it is past n and passes
  kept_past : (n from : ℕ) (b : Bool) (rest : List ℕ) → n < from → filter (nat_lt n) (cond b (from ∷ rest) rest) ≡ cond b (from ∷ filter (nat_lt n) rest) (filter (nat_lt n) rest)
  kept_past n from true rest l = ap (λ b. cond b (from ∷ filter (nat_lt n) rest) (filter (nat_lt n) rest)) (lt-ltb n from l)
  kept_past n from false rest l = refl

  left_out : (n from : ℕ) (b : Bool) (rest : List ℕ) → from ≤ n → filter (nat_lt n) (cond b (from ∷ rest) rest) ≡ filter (nat_lt n) rest
  left_out n from true rest l = ap (λ b. cond b (from ∷ filter (nat_lt n) rest) (filter (nat_lt n) rest)) (le-ltb n from l)
  left_out n from false rest l = refl

  -- of numbers past n, all are past it
  all_past : (n from count : ℕ) → n < from → filter (nat_lt n) (filter p (range_with_len from count)) ≡ filter p (range_with_len from count)
  all_past n from zero l = refl
  all_past n from (suc count) l =
      kept_past n from (p from) (filter p (range_with_len (from + 1) count)) l
      ∙ ap (λ xs. cond (p from) (from ∷ xs) xs) (all_past n (from + 1) count (omega arith))

  -- those of the numbers that are past n
  past_from : (n from count : ℕ) → from ≤ n + 1 → filter (nat_lt n) (filter p (range_with_len from count)) ≡ filter p (range_with_len (n + 1) (from + count - (n + 1)))
  past_from n from zero l =
      let none : from + 0 - (n + 1) ≡ 0 = omega arith in ap (λ c. filter p (range_with_len (n + 1) c)) (sym none)
  past_from n from (suc count) l = elim (cases_lt n from) [
    | inl past ↦
        let at : from ≡ n + 1 = omega arith in
        let rest : from + suc count - (n + 1) ≡ suc count = omega arith in
        all_past n from (suc count) past ∙ ap (λ f. filter p (range_with_len f (suc count))) at ∙ ap (λ c. filter p (range_with_len (n + 1) c)) (sym rest)
    | inr before ↦
        let rest : from + 1 + count ≡ from + suc count = omega arith in
        left_out n from (p from) (filter p (range_with_len (from + 1) count)) before
        ∙ past_from n (from + 1) count (omega arith) ∙ ap (λ e. filter p (range_with_len (n + 1) (e - (n + 1)))) rest
  ]

  -- of those from one number on, the ones that are past n
  pub past : (n from end : ℕ) → filter (nat_lt n) (passing from end) ≡ passing (max from (n + 1)) end
  past n from end = elim (cases_lt n from) [
    | inl after ↦ let first : max from (n + 1) ≡ from = omega arith in all_past n from (end - from) after ∙ ap (λ f. passing f end) (sym first)
    | inr before ↦
        let first : max from (n + 1) ≡ n + 1 = omega arith in
        let count : from + (end - from) - (n + 1) ≡ end - (n + 1) = omega arith in
        past_from n from (end - from) (omega arith) ∙ ap (λ c. filter p (range_with_len (n + 1) c)) count ∙ ap (λ f. passing f end) (sym first)
  ]

  -- nothing passes from one number on, or the first that does stands before the others
  pub nothing_passes : (from end : ℕ) → ((d : ℕ) → from ≤ d → d < end → p d ≡ false) → passing from end ≡ []
  nothing_passes from end h = none_pass from (end - from) (λ d l m. h d l (omega arith))

  pub least_passes : (from least end : ℕ) → from ≤ least → least < end → p least ≡ true → ((d : ℕ) → from ≤ d → d < least → p d ≡ false) → passing from end ≡ least ∷ passing (least + 1) end
  least_passes from least end l m e h =
      skipped (least - from) from least end (omega arith) (omega arith) h ∙ first_passes least end m e

-- a test that each number passes leaves none out
pub all_pass : (from count : ℕ) → filter (λ _. true) (range_with_len from count) ≡ range_with_len from count
all_pass from zero = refl
all_pass from (suc count) = ap (λ rest. from ∷ rest) (all_pass (from + 1) count)

-- neighbouring numbers rise
pub range_rises : (from count : ℕ) → IsStrictlyIncreasing (range_with_len from count)
range_rises from count k within =
    let before = get_or-range_with_len from count k 0 (omega (arith, length-range_with_len from count)) in
    let after = get_or-range_with_len from count (k + 1) 0 (omega (arith, length-range_with_len from count)) in
    omega arith
