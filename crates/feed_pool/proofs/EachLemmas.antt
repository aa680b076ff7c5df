-- What holds of each feed still holds after one was added, after one item was taken, and after what stands in a place changed.
use Rattle.std.proofs.Common.{◌≡◌, ℕ, suc, zero, ◌<◌, Bool, true, false, cond, eqb, List, [], ◌∷◌, ◌++◌, length, get_or, set, Option, Some, None, ◌⊎◌, inl, inr, refl, sym, subst, ◌∙◌, arith}
use Rattle.std.specs.Prelude.{◌≢◌, option_map, Ok}
use Rattle.std.proofs.lemmas.Bool.{eqb-true}
use Rattle.std.proofs.lemmas.Bool.Decides.{eqb_tells}
use Rattle.std.proofs.lemmas.List.{get_or-set_same, get_or-set_other, get_or_push, get_or_past}
use Rattle.lean_items.specs.declared.feed_key.FeedKey.{FeedKey}
use Rattle.lean_items.specs.declared.item.Item.{Item}
use Rattle.lean_items.specs.Taken.{Taken, Feeds, added_to, taken_of, more}
use Rattle.feed_pool.specs.Each.{AtEach}

-- a feed of which something was taken: the others are as they were
of_one : (here : Bool) (o : Option Taken) (items : List Item) (taken : Taken) → cond here (option_map (more items) o) o ≡ Some taken
    → ((here ≡ true) × ((before : Taken) × (o ≡ Some before) × (more items before ≡ taken))) ⊎ ((here ≡ false) × (o ≡ Some taken))
of_one true (Some before) items taken e = inl (refl, (before, refl, cc))
of_one true None items taken e = absurd cc
of_one false o items taken e = inr (refl, e)

-- a feed that was added: the others are as they were
of_new : (here : Bool) (o : Option Taken) (new taken : Taken) → cond here (Some new) o ≡ Some taken → ((here ≡ true) × (new ≡ taken)) ⊎ ((here ≡ false) × (o ≡ Some taken))
of_new true o new taken e = inl (refl, cc)
of_new false o new taken e = inr (refl, e)

differs : (a b : ℕ) → eqb a b ≡ false → a ≢ b
differs a b e = elim (eqb_tells a b) [ inl h ↦ absurd cc | inr h ↦ h.1 ]

module _ {A : Type 0} where
  -- behind the last place stands nothing, before and after a push
  pub push_other : (places : List (Option A)) (x : Option A) (n : ℕ) → n ≢ length places → get_or (places ++ x ∷ []) n None ≡ get_or places n None
  push_other [] x zero other = absurd (other refl)
  push_other [] x (suc n) other = refl
  push_other (y ∷ places) x zero other = refl
  push_other (y ∷ places) x (suc n) other = push_other places x n (λ e. other cc)

  module _ (Fact Later : Option A → Taken → Type 0) (kept : (x : Option A) (taken : Taken) → Fact x taken → Later x taken) where
    pub each-kept : (places : List (Option A)) (feeds : Feeds) → AtEach Fact places feeds → AtEach Later places feeds
    each-kept places feeds each n taken is = kept (get_or places n None) taken (each n taken is)

    pub each-added : (places : List (Option A)) (feeds : Feeds) (k : ℕ) (x : Option A) (key : FeedKey) → length places ≡ k
        → Later x (record { key = key; items = [] }) → AtEach Fact places feeds → AtEach Later (places ++ x ∷ []) (added_to feeds key (Ok (record { 0 = k })))
    each-added places feeds k x key count new each n taken is =
        elim (of_new (eqb n k) (feeds n) (record { key = key; items = [] }) taken is) [
          | inl h ↦ (let at : length places ≡ n = count ∙ sym (eqb-true n k h.0) in
              let here = subst (λ t. Later x t) h.1 new in
              subst (λ y. Later y taken) (sym (get_or_push places x None n at)) here)
          | inr h ↦ (let other : n ≢ length places = λ e. differs n k h.0 (e ∙ count) in
              subst (λ y. Later y taken) (sym (push_other places x n other)) (kept (get_or places n None) taken (each n taken h.1)))
        ]

    pub each-taken : (places : List (Option A)) (feeds : Feeds) (k : ℕ) (x : Option A) (item : Item) → k < length places
        → ((taken : Taken) → Fact (get_or places k None) taken → Later x (more (item ∷ []) taken))
        → AtEach Fact places feeds → AtEach Later (set places k x) (taken_of feeds k item)
    each-taken places feeds k x item within step each n taken is =
        elim (of_one (eqb n k) (feeds n) (item ∷ []) taken is) [
          | inl h ↦ (let here : n ≡ k = eqb-true n k h.0 in
              let was : Fact (get_or places k None) h.1.0 = subst (λ m. Fact (get_or places m None) h.1.0) here (each n h.1.0 h.1.1) in
              let now : Later x taken = subst (λ t. Later x t) h.1.2 (step h.1.0 was) in
              let at : get_or (set places k x) n None ≡ x = subst (λ m. get_or (set places k x) m None ≡ x) (sym here) (get_or-set_same places k x None within) in
              subst (λ y. Later y taken) (sym at) now)
          | inr h ↦ subst (λ y. Later y taken) (sym (get_or-set_other places k n x None (differs n k h.0))) (kept (get_or places n None) taken (each n taken h.1))
        ]

    pub each-set : (places : List (Option A)) (feeds : Feeds) (k : ℕ) (x : Option A) → k < length places
        → ((taken : Taken) → Fact (get_or places k None) taken → Later x taken)
        → AtEach Fact places feeds → AtEach Later (set places k x) feeds
    each-set places feeds k x within step each n taken is =
        elim (eqb_tells n k) [
          | inl h ↦ (let was : Fact (get_or places k None) taken = subst (λ m. Fact (get_or places m None) taken) h.1 (each n taken is) in
              let at : get_or (set places k x) n None ≡ x = subst (λ m. get_or (set places k x) m None ≡ x) (sym h.1) (get_or-set_same places k x None within) in
              subst (λ y. Later y taken) (sym at) (step taken was))
          | inr h ↦ subst (λ y. Later y taken) (sym (get_or-set_other places k n x None h.1)) (kept (get_or places n None) taken (each n taken is))
        ]

    pub each-popped : (places : List (Option A)) (x : Option A) (feeds : Feeds) → ((taken : Taken) → Fact x taken → Later None taken)
        → AtEach Fact (places ++ x ∷ []) feeds → AtEach Later places feeds
    each-popped places x feeds step each n taken is =
        elim (eqb_tells n (length places)) [
          | inl h ↦ (let was : Fact x taken = subst (λ y. Fact y taken) (get_or_push places x None n (sym h.1)) (each n taken is) in
              let at : get_or places n None ≡ None = get_or_past places n None (omega (arith, h.1)) in
              subst (λ y. Later y taken) (sym at) (step taken was))
          | inr h ↦ kept (get_or places n None) taken (subst (λ y. Fact y taken) (push_other places x n h.1) (each n taken is))
        ]
