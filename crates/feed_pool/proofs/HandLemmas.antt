-- How many feeds are there, after one was added, removed or let go.
use Rattle.std.proofs.Common.{◌≡◌, ℕ, zero, suc, ◌+◌, ◌-◌, ◌<◌, List, [], ◌∷◌, ◌++◌, length, get_or, set, Option, None, refl, ap, ◌∙◌, arith}
use Rattle.feed_pool.specs.Running.{one, held}

module _ {G : Type 0} where
  pub held-push : (feeds : List (Option G)) (x : Option G) → held (feeds ++ x ∷ []) ≡ held feeds + one x
  held-push [] x = omega arith
  held-push (y ∷ feeds) x = omega (arith, held-push feeds x)

  pub held-set : (feeds : List (Option G)) (k : ℕ) (x : Option G) → k < length feeds → held (set feeds k x) + one (get_or feeds k None) ≡ held feeds + one x
  held-set [] k x within = absurd (omega (arith, within))
  held-set (y ∷ feeds) zero x within = omega arith
  held-set (y ∷ feeds) (suc k) x within = omega (arith, held-set feeds k x (omega (arith, within)))

  -- a feed that gave an item is there still
  pub held-taken : (feeds : List (Option G)) (k : ℕ) (new : Option G) → k < length feeds → one (get_or feeds k None) ≡ 1 → one new ≡ 1 → held (set feeds k new) ≡ held feeds
  held-taken feeds k new within was is = omega (arith, held-set feeds k new within, was, is)

  -- the hand of a feed that was removed was given back
  pub held-removed : (feeds : List (Option G)) (k was now later : ℕ) (x : Option G) → k < length feeds → get_or feeds k None ≡ x → one x ≡ 1
      → now ≡ was + held feeds → later ≡ now - 1 → later ≡ was + held (set feeds k None)
  held-removed feeds k was now later x within there is out back =
      let there_was : one (get_or feeds k None) ≡ 1 = ap one there ∙ is in
      omega (arith, held-set feeds k None within, there_was, out, back)

  pub empty-when_none : (feeds : List (Option G)) → length feeds ≡ 0 → feeds ≡ []
  empty-when_none [] none = refl
  empty-when_none (x ∷ feeds) none = absurd (omega (arith, none))
