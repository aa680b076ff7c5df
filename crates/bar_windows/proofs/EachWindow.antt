-- Steps of the loops over all windows.
use Rattle.std.proofs.Common.{ℕ, ◌+◌, ◌<◌, ◌≤◌, ◌≡◌, ◌≢◌, List, [], ◌∷◌, ◌++◌, length, map, take, get_or, All, sym, ap, ◌∙◌, subst, arith, nat_cmp, inl, inr, length-set, get_or-set_other, get_or-set_same}
use Rattle.std.specs.List.{slice_set}
use Rattle.std.specs.Ordering.{ord_max}
use Rattle.std.proofs.lemmas.Bool.{cases_lt}
use Rattle.std.proofs.lemmas.Bool.Decides.{nat_tests}
use Rattle.std.proofs.lemmas.List.{take_more, map-append, take_all}
use Rattle.std.proofs.lemmas.List.Elements.{All-more, All-weaker}
use Rattle.lean_fixed.specs.declared.money.Price.{Price}
use Rattle.bar_windows.specs.declared.spec.WindowSpec.{WindowSpec}
use Rattle.bar_windows.specs.declared.window.Window.{Window}
use Rattle.bar_windows.specs.Kept.{Heard, reach_of}
use Rattle.bar_windows.specs.Recent.{spec_of}

max_bounds : (a b r : ℕ) → r ≡ ord_max nat_cmp a b → (a ≤ r) × (b ≤ r)
max_bounds a b r is = (grind (arith, nat_tests), grind (arith, nat_tests))

pub longest_more : (specs : List WindowSpec) (i : ℕ) (d : WindowSpec) (most r s : ℕ) → i < length specs → All (λ spec. reach_of spec ≤ most) (take i specs)
    → r ≡ reach_of (get_or specs i d) → s ≡ ord_max nat_cmp most r → All (λ spec. reach_of spec ≤ s) (take (i + 1) specs)
longest_more specs i d most r s within before reach is =
    let bounds = max_bounds most r s is in
    let low : most ≤ s = bounds.0 in
    let high : r ≤ s = bounds.1 in
    All-more (λ spec. reach_of spec ≤ s) specs i d within
    (All-weaker (λ spec. reach_of spec ≤ most) (λ spec. reach_of spec ≤ s) (λ spec le. omega arith) (take i specs) before)
    (subst (λ m. m ≤ s) reach high)

pub longest_all : (specs : List WindowSpec) (i most : ℕ) → length specs ≤ i → All (λ spec. reach_of spec ≤ most) (take i specs) → All (λ spec. reach_of spec ≤ most) specs
longest_all specs i most end all = subst (λ xs. All (λ spec. reach_of spec ≤ most) xs) (take_all i specs end) all

pub made_more : (specs : List WindowSpec) (i : ℕ) (d : WindowSpec) (windows after : List Window) (w : Window) → i < length specs
    → map spec_of windows ≡ take i specs → w.spec ≡ get_or specs i d → after ≡ windows ++ w ∷ [] → map spec_of after ≡ take (i + 1) specs
made_more specs i d windows after w within before is push =
    ap (map spec_of) push ∙ map-append spec_of windows (w ∷ [])
    ∙ ap (λ (xs : List WindowSpec). xs ++ w.spec ∷ []) before ∙ ap (λ s. take i specs ++ s ∷ []) is ∙ sym (take_more specs i d within)

-- a window at which a close was heard, and those after it
pub record HeardTo (closes : List Price) (close : Price) (i : ℕ) (windows : List Window) : Type 0 where
  pub heard : (k : ℕ) (d : Window) → k < i → k < length windows → Heard (closes ++ close ∷ []) (get_or windows k d)
  pub ahead : (k : ℕ) (d : Window) → i ≤ k → k < length windows → Heard closes (get_or windows k d)

pub heard_more : (closes : List Price) (close : Price) (i : ℕ) (windows : List Window) (w : Window) → i < length windows
    → HeardTo closes close i windows → Heard (closes ++ close ∷ []) w → HeardTo closes close (i + 1) (slice_set windows i w)
heard_more closes close i windows w within before here = record {
  heard = λ k d below in_set.
      let size : k < length windows = subst (λ n. k < n) (length-set windows i w) in_set in
      elim (cases_lt k i) [
        | inl earlier ↦
            (let ne : k ≢ i = omega arith in
            subst (Heard (closes ++ close ∷ [])) (sym (get_or-set_other windows i k w d ne)) (before.heard k d earlier size))
        | inr later ↦
            (let at : k ≡ i = omega arith in
            subst (Heard (closes ++ close ∷ [])) (sym (ap (λ j. get_or (slice_set windows i w) j d) at ∙ get_or-set_same windows i w d within)) here)
      ];
  ahead = λ k d above in_set.
      let size : k < length windows = subst (λ n. k < n) (length-set windows i w) in_set in
      let ne : k ≢ i = omega arith in
      subst (Heard closes) (sym (get_or-set_other windows i k w d ne)) (before.ahead k d (omega arith) size);
}

pub heard_none : (closes : List Price) (close : Price) (windows : List Window) → All (Heard closes) windows → HeardTo closes close 0 windows
heard_none closes close windows all = record {
  heard = λ k d below within. absurd (omega arith);
  ahead = λ k d above within. all k d within;
}

pub heard_all : (closes : List Price) (close : Price) (i : ℕ) (windows : List Window) → length windows ≤ i → HeardTo closes close i windows
    → All (Heard (closes ++ close ∷ [])) windows
heard_all closes close i windows end to k d within = to.heard k d (omega arith) within
