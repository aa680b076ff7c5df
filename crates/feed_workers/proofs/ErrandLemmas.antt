-- No turn is lost by an errand that is done.
use Rattle.std.proofs.Common.{◌≡◌, ℕ, ◌+◌, ◌≤◌, List, [], ◌∷◌, ◌++◌, Option, Some, refl, sym, ap, ◌∙◌, subst, arith}
use Rattle.std.specs.Prelude.{MatchOption}
use Rattle.lean_items.specs.declared.feeds.Feed.{Ghosts}
use Rattle.lean_items.specs.declared.feed_no.FeedNo.{FeedNo}
use Rattle.feed_workers.specs.declared.away.Away.{Away}
use Rattle.feed_workers.specs.declared.errand.Errand.{Errand}
use Rattle.feed_workers.specs.declared.errand.Errand.TheVariants.{Take, Leave}
use Rattle.feed_workers.specs.Errands.{takes, leaves, IsNoneLost}

module _ {G : Type 0} {feed : Ghosts G} where
  pub takes-append : (xs ys : List (Errand G feed)) → takes (xs ++ ys) ≡ takes xs + takes ys
  takes-append [] ys = omega arith
  takes-append (Take number away ∷ xs) ys = (let e = takes-append xs ys in omega (arith, e))
  takes-append (Leave number ∷ xs) ys = takes-append xs ys

  pub leaves-append : (xs ys : List (Errand G feed)) → leaves (xs ++ ys) ≡ leaves xs + leaves ys
  leaves-append [] ys = omega arith
  leaves-append (Take number away ∷ xs) ys = leaves-append xs ys
  leaves-append (Leave number ∷ xs) ys = (let e = leaves-append xs ys in omega (arith, e))

  pub took-one : (errands now : List (Errand G feed)) (item : Errand G feed) (number : FeedNo) (away : Away G feed) (there later : ℕ)
      → item ≡ Take number away → now ≡ errands ++ item ∷ [] → later ≡ there + 1 → IsNoneLost errands there → IsNoneLost now later
  took-one errands now item number away there later is pushed more kept =
      let e : now ≡ errands ++ Take number away ∷ [] = pushed ∙ ap (λ i. errands ++ i ∷ []) is in
      let t : takes now ≡ takes errands + takes (Take number away ∷ []) = ap takes e ∙ takes-append errands (Take number away ∷ []) in
      let l : leaves now ≡ leaves errands + leaves (Take number away ∷ []) = ap leaves e ∙ leaves-append errands (Take number away ∷ []) in
      omega (arith, t, l, more, kept)

  pub left-one : (errands now : List (Errand G feed)) (item : Errand G feed) (number : FeedNo) (there later : ℕ)
      → item ≡ Leave number → now ≡ errands ++ item ∷ [] → there ≤ later + 1 → IsNoneLost errands there → IsNoneLost now later
  left-one errands now item number there later is pushed fewer kept =
      let e : now ≡ errands ++ Leave number ∷ [] = pushed ∙ ap (λ i. errands ++ i ∷ []) is in
      let t : takes now ≡ takes errands + takes {G = G} {feed = feed} (Leave number ∷ []) = ap takes e ∙ takes-append errands (Leave number ∷ []) in
      let l : leaves now ≡ leaves errands + leaves {G = G} {feed = feed} (Leave number ∷ []) = ap leaves e ∙ leaves-append errands (Leave number ∷ []) in
      omega (arith, t, l, fewer, kept)

  pub none-yet : (errands : List (Errand G feed)) (there : ℕ) → errands ≡ [] → IsNoneLost errands there
  none-yet errands there none = (let t : takes errands ≡ 0 = ap takes none in omega (arith, t))

  pub one-more : (errands now : List (Errand G feed)) (number : FeedNo) (away : Away G feed) → now ≡ errands ++ Take number away ∷ [] → takes now ≡ takes errands + 1
  one-more errands now number away is =
      let t : takes now ≡ takes errands + takes (Take number away ∷ []) = ap takes is ∙ takes-append errands (Take number away ∷ []) in
      omega (arith, t)

  pub came-back : (result : Option (Away G feed)) (away : Away G feed) (P : Type 0) → result ≡ Some away → MatchOption result P (λ back. back ≡ away)
  came-back result away P is = subst (λ r. MatchOption r P (λ back. back ≡ away)) (sym is) refl

  -- the turns that were here and those that were on their way are all that came by the errands, save those that were let go
  pub none-missed : (sent taken left : List (Errand G feed)) (here rest all : ℕ) → sent ≡ taken ++ left → IsNoneLost taken here → takes left ≤ rest → all ≡ here + rest
      → IsNoneLost sent all
  none-missed sent taken left here rest all is kept went sum =
      let t : takes sent ≡ takes taken + takes left = ap takes is ∙ takes-append taken left in
      let l : leaves sent ≡ leaves taken + leaves left = ap leaves is ∙ leaves-append taken left in
      omega (arith, t, l, kept, went, sum)
