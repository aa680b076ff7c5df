-- The bars up to a moment grow by the bar that ends then.
use Rattle.std.proofs.Common.{◌≡◌, ℕ, zero, suc, ◌+◌, ◌<◌, ◌≤◌, List, [], ◌∷◌, ◌++◌, refl, sym, ap, ◌∙◌, subst, arith, inl, inr, append-nil}
use Rattle.std.specs.Prelude.{Option, Some, None, ◌==◌, find, true, option_to_list}
use Rattle.std.proofs.lemmas.Bool.{cases_lt}
use Rattle.std.proofs.lemmas.Bool.Decides.{nat_tests}
use Rattle.lean_items.specs.declared.bar.Bar.{Bar}
use Rattle.clock_steps.specs.Walks.{walk}
use Rattle.clock_steps.proofs.WalkLemmas.{walk-cut, walk-next, walk-none, walk-first}
use Rattle.clock_feeds.specs.Bars.{end_of, ends_at, bar_at}
use Rattle.clock_feeds.specs.Slices.{Source}
use Rattle.clock_feeds.specs.Known.{bars_by}
use Rattle.clock_feeds.specs.Stands.{EndBy, Rises}
use Rattle.clock_feeds.proofs.SearchLemmas.{Each, each_both}
use Rattle.clock_feeds.proofs.BarLemmas.{none_by, find_behind}
use Rattle.clock_feeds.proofs.ListLemmas.{bar_ends}
use Rattle.clock_feeds.proofs.SliceLemmas.{bar_early}

ends_by_more : (a b : ℕ) (bars : List Bar) → a ≤ b → EndBy a bars → EndBy b bars
ends_by_more a b [] low by = tt
ends_by_more a b (bar ∷ bars) low by = (omega (arith, low, by.0), ends_by_more a b bars low by.1)

ends_by_both : (t : ℕ) (xs ys : List Bar) → EndBy t xs → EndBy t ys → EndBy t (xs ++ ys)
ends_by_both t [] ys first second = second
ends_by_both t (x ∷ xs) ys first second = (first.0, ends_by_both t xs ys first.1 second)

module _ (s : Source) where
  abbrev gives : ℕ → List Bar
  gives u = option_to_list (bar_at s.filling s.kept u)

  none_given : (u : ℕ) → bar_at s.filling s.kept u ≡ None → gives u ≡ []
  none_given u none = ap option_to_list none

  pub grow : (before t : ℕ) → before < t → ((u : ℕ) → before < u → u < t → bar_at s.filling s.kept u ≡ None) → bars_by s t ≡ bars_by s before ++ option_to_list (bar_at s.filling s.kept t)
  unfolding bars_by
  grow before t low none =
      walk-cut gives 0 before t (omega arith) (omega (arith, low))
      ∙ ap (λ xs. walk gives 0 before ++ xs)
      (walk-next gives before t t low (omega arith) (λ u l h. none_given u (none u l h))
      ∙ ap (λ xs. gives t ++ xs) (walk-none gives t t (λ u l h. absurd (omega (arith, l, h)))) ∙ append-nil (gives t))

  pub idle : (before t : ℕ) → before ≤ t → ((u : ℕ) → before < u → u ≤ t → bar_at s.filling s.kept u ≡ None) → bars_by s t ≡ bars_by s before
  unfolding bars_by
  idle before t low none =
      walk-cut gives 0 before t (omega arith) low
      ∙ ap (λ xs. walk gives 0 before ++ xs) (walk-none gives before t (λ u l h. none_given u (none u l (omega (arith, h))))) ∙ append-nil (walk gives 0 before)

  first : bars_by s 0 ≡ gives 0
  unfolding bars_by
  first =
      walk-first gives 0 0 (omega arith)
      ∙ ap (λ xs. gives 0 ++ xs) (walk-none gives 0 0 (λ u l h. absurd (omega (arith, l, h)))) ∙ append-nil (gives 0)

  pub next : (t : ℕ) → bars_by s (t + 1) ≡ bars_by s t ++ gives (t + 1)
  next t = grow t (t + 1) (omega arith) (λ u l h. absurd (omega (arith, l, h)))

  pub none : (t : ℕ) → ((u : ℕ) → u ≤ t → bar_at s.filling s.kept u ≡ None) → bars_by s t ≡ []
  none t early = idle 0 t (omega arith) (λ u l h. early u h) ∙ first ∙ none_given 0 (early 0 (omega arith))

  given_ends : (u : ℕ) (o : Option Bar) → bar_at s.filling s.kept u ≡ o → EndBy u (option_to_list o)
  given_ends u None is = tt
  given_ends u (Some bar) is = (let e = bar_ends s.filling s.kept u bar is in omega (arith, e), tt)

  pub end : (t : ℕ) → EndBy t (bars_by s t)
  end zero = subst (EndBy 0) (sym first) (given_ends 0 (bar_at s.filling s.kept 0) refl)
  end (suc t) =
      let e : t + 1 ≡ suc t = omega arith in
      subst (λ n. EndBy n (bars_by s n)) e
      (subst (EndBy (t + 1)) (sym (next t))
      (ends_by_both (t + 1) (bars_by s t) (gives (t + 1)) (ends_by_more t (t + 1) (bars_by s t) (omega arith) (end t)) (given_ends (t + 1) (bar_at s.filling s.kept (t + 1)) refl)))

  here : (t : ℕ) (o : Option Bar) → bar_at s.filling s.kept t ≡ o → find (ends_at t) (option_to_list o) ≡ o
  here t None is = refl
  here t (Some bar) is =
      let e : end_of bar ≡ t = bar_ends s.filling s.kept t bar is in
      let passes : (end_of bar == t) ≡ true = grind (arith, nat_tests) in
      rw passes refl

  pub now : (t : ℕ) → find (ends_at t) (bars_by s t) ≡ bar_at s.filling s.kept t
  now zero = ap (find (ends_at 0)) first ∙ here 0 (bar_at s.filling s.kept 0) refl
  now (suc t) =
      let e : t + 1 ≡ suc t = omega arith in
      subst (λ n. find (ends_at n) (bars_by s n) ≡ bar_at s.filling s.kept n) e
      (ap (find (ends_at (t + 1))) (next t)
      ∙ find_behind (ends_at (t + 1)) (bars_by s t) (gives (t + 1)) (none_by t (t + 1) (bars_by s t) (end t) (omega arith))
      ∙ here (t + 1) (bar_at s.filling s.kept (t + 1)) refl)

  rises_last : (after u : ℕ) (xs : List Bar) (bar : Bar) → Rises after xs → EndBy u xs → after < end_of bar → u < end_of bar → Rises after (xs ++ bar ∷ [])
  rises_last after u [] bar rises ends low later = (low, tt)
  rises_last after u (x ∷ xs) bar rises ends low later = (rises.0, rises_last (end_of x) u xs bar rises.1 ends.1 (omega (arith, ends.0, later)) later)

  rises_on : (after t : ℕ) (o : Option Bar) → bar_at s.filling s.kept (t + 1) ≡ o → (t + 1 ≤ after → o ≡ None) → Rises after (bars_by s t) → Rises after (bars_by s t ++ option_to_list o)
  rises_on after t None is early rises = subst (Rises after) (sym (append-nil (bars_by s t))) rises
  rises_on after t (Some bar) is early rises =
      let e : end_of bar ≡ t + 1 = bar_ends s.filling s.kept (t + 1) bar is in
      elim (cases_lt after (t + 1)) [
        | inl past ↦ rises_last after t (bars_by s t) bar rises (end t) (omega (arith, e, past)) (omega (arith, e))
        | inr low ↦ absurd (let no : Some bar ≡ None = early (omega (arith, low)) in cc)
      ]

  pub rise : (after t : ℕ) → Rises after s.kept.rows → Rises after (bars_by s t)
  rise after zero rises = subst (Rises after) (sym (first ∙ none_given 0 (bar_early s.filling s.kept after 0 rises (omega arith)))) tt
  rise after (suc t) rises =
      let e : t + 1 ≡ suc t = omega arith in
      subst (λ n. Rises after (bars_by s n)) e
      (subst (Rises after) (sym (next t)) (rises_on after t (bar_at s.filling s.kept (t + 1)) refl (λ low. bar_early s.filling s.kept after (t + 1) rises low) (rise after t rises)))

  given_holds : (P : Bar → Type 0) → ((u : ℕ) (bar : Bar) → bar_at s.filling s.kept u ≡ Some bar → P bar) → (u : ℕ) (o : Option Bar) → bar_at s.filling s.kept u ≡ o → Each P (option_to_list o)
  given_holds P holds u None is = tt
  given_holds P holds u (Some bar) is = (holds u bar is, tt)

  -- what holds of the bar of each moment holds of each bar
  pub each : (P : Bar → Type 0) → ((u : ℕ) (bar : Bar) → bar_at s.filling s.kept u ≡ Some bar → P bar) → (t : ℕ) → Each P (bars_by s t)
  each P holds zero = subst (Each P) (sym first) (given_holds P holds 0 (bar_at s.filling s.kept 0) refl)
  each P holds (suc t) =
      let e : t + 1 ≡ suc t = omega arith in
      subst (λ n. Each P (bars_by s n)) e
      (subst (Each P) (sym (next t)) (each_both P (bars_by s t) (gives (t + 1)) (each P holds t) (given_holds P holds (t + 1) (bar_at s.filling s.kept (t + 1)) refl)))
