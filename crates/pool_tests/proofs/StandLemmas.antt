-- One more item of a script was taken.
use Rattle.std.proofs.Common.{◌≡◌, ℕ, ◌+◌, ◌<◌, ◌≤◌, List, [], ◌∷◌, ◌++◌, drop, get_or, length, Option, Some, None, ◌⊎◌, inl, inr, refl, sym, ap, ◌∙◌, subst, append_assoc, arith, true}
use Rattle.std.specs.Prelude.{is_some}
use Rattle.std.specs.List.{All, Contains}
use Rattle.std.proofs.lemmas.Bool.{cases_lt, false≢true}
use Rattle.std.proofs.lemmas.List.{get_or_past, drop_more, drop_all}
use Rattle.std.proofs.lemmas.List.Elements.{All-push, All-nil, Contains-push_cases}
use Rattle.lean_fixed.specs.Counts.{Rose}
use Rattle.lean_items.specs.declared.item.Item.{Item}
use Rattle.lean_items.specs.declared.item.Item.TheVariants.{Bar, Coarse, Bad, Faulted, End}
use Rattle.lean_items.specs.Given.{IsRow, OnFaulted}
use Rattle.lean_items.specs.Taken.{Taken, more}
use Rattle.pool_tests.specs.Places.{list_at, place_behind, Standing}
use Rattle.pool_tests.specs.Scripts.{list_of}

-- what is left from a place on, which gave an item
at_place : (items : List Item) (p : ℕ) (item : Item) → item ≡ get_or items p End
    → (drop p items ≡ item ∷ drop (p + 1) items) ⊎ ((drop p items ≡ []) × (item ≡ End))
at_place items p item is = elim (cases_lt p (length items)) [
  | inl h ↦ inl (drop_more items p End h ∙ ap (λ x. x ∷ drop (p + 1) items) (sym is))
  | inr h ↦ inr (drop_all p items h, is ∙ get_or_past items p End h)
]

-- a row is the next of the list
row_next : (items : List Item) (p : ℕ) (item : Item) → item ≡ get_or items p End → IsRow item → list_of (drop p items) ≡ item ∷ list_of (drop (p + 1) items)
row_next items p (Bar bar) is row = elim (at_place items p (Bar bar) is) [ inl h ↦ ap list_of h | inr h ↦ absurd cc ]
row_next items p (Coarse at coarse) is row = elim (at_place items p (Coarse at coarse) is) [ inl h ↦ ap list_of h | inr h ↦ absurd cc ]
row_next items p (Bad bad) is row = absurd cc
row_next items p Faulted is row = absurd cc
row_next items p End is row = absurd cc

bad_next : (items : List Item) (p : ℕ) (bad : _) → Bad bad ≡ get_or items p End → list_of (drop p items) ≡ Bad bad ∷ []
bad_next items p bad is = elim (at_place items p (Bad bad) is) [ inl h ↦ ap list_of h | inr h ↦ absurd cc ]

end_next : (items : List Item) (p : ℕ) → End ≡ get_or items p End → list_of (drop p items) ≡ End ∷ []
end_next items p is = elim (at_place items p End is) [ inl h ↦ ap list_of h | inr h ↦ ap list_of h.0 ]

-- a failed read is found among taken items only if it was, or if it was taken now
was_faulted : (taken : List Item) (item : Item) → (item ≡ Faulted → ⊥) → Contains (taken ++ item ∷ []) Faulted → Contains taken Faulted
was_faulted taken item other has = elim (Contains-push_cases taken item Faulted has) [ inl h ↦ h | inr h ↦ absurd (other h) ]

-- a row was taken
row-taken : (items : List Item) (before now later p : ℕ) (item : Item) (taken : Taken) → item ≡ get_or items p End → (now ≤ later) → IsRow item → (item ≡ Faulted → ⊥)
    → Standing items before now (Some p) taken → Standing items before later (Some (p + 1)) (more (item ∷ []) taken)
row-taken items before now later p item taken is grows row other standing =
    let left = standing.left p refl in
    let split : list_at items taken.key ≡ (taken.items ++ item ∷ []) ++ list_of (drop (p + 1) items)
    = left.0 ∙ ap (λ x. taken.items ++ x) (row_next items p item is row) ∙ sym (append_assoc taken.items (item ∷ []) (list_of (drop (p + 1) items))) in
    record {
      follows = inl (list_of (drop (p + 1) items), split);
      left = λ q e. (let here : q ≡ p + 1 = cc in
          (subst (λ r. list_at items taken.key ≡ (taken.items ++ item ∷ []) ++ list_of (drop r items)) (sym here) split, All-push IsRow taken.items item left.1 row));
      rose = λ has. omega (arith, standing.rose (was_faulted taken.items item other has), grows);
    }

-- the last item of the list was taken
last-taken : (items : List Item) (before now later p : ℕ) (item : Item) (taken : Taken) → list_of (drop p items) ≡ item ∷ [] → (now ≤ later) → (item ≡ Faulted → ⊥)
    → Standing items before now (Some p) taken → Standing items before later None (more (item ∷ []) taken)
last-taken items before now later p item taken last grows other standing =
    let left = standing.left p refl in
    record {
      follows = inl ([], left.0 ∙ ap (λ x. taken.items ++ x) last ∙ sym (append_assoc taken.items (item ∷ []) []));
      left = λ q e. absurd cc;
      rose = λ has. omega (arith, standing.rose (was_faulted taken.items item other has), grows);
    }

fault-taken : (items : List Item) (before now later p : ℕ) (taken : Taken) → before ≤ now → Rose now later
    → Standing items before now (Some p) taken → Standing items before later None (more (Faulted ∷ []) taken)
fault-taken items before now later p taken since rose standing =
    let left = standing.left p refl in
    record {
      follows = inr (taken.items, list_of (drop p items), refl, left.0, left.1);
      left = λ q e. absurd cc;
      rose = λ has. omega (arith, since, rose);
    }

pub stand-taken : (items : List Item) (before now later p : ℕ) (item : Item) (taken : Taken) → item ≡ get_or items p End → before ≤ now → now ≤ later → OnFaulted item (Rose now later)
    → Standing items before now (Some p) taken → Standing items before later (place_behind item p) (more (item ∷ []) taken)
stand-taken items before now later p (Bar bar) taken is since grows rose standing = row-taken items before now later p (Bar bar) taken is grows refl (λ e. cc) standing
stand-taken items before now later p (Coarse at row) taken is since grows rose standing = row-taken items before now later p (Coarse at row) taken is grows refl (λ e. cc) standing
stand-taken items before now later p (Bad bad) taken is since grows rose standing = last-taken items before now later p (Bad bad) taken (bad_next items p bad is) grows (λ e. cc) standing
stand-taken items before now later p Faulted taken is since grows rose standing = fault-taken items before now later p taken since rose standing
stand-taken items before now later p End taken is since grows rose standing = last-taken items before now later p End taken (end_next items p is) grows (λ e. cc) standing

-- a count that grows stays risen, whatever stands in a place
pub stand-later : (items : List Item) (before now later : ℕ) → now ≤ later → (place : Option ℕ) (taken : Taken)
    → Standing items before now place taken → Standing items before later place taken
stand-later items before now later grows place taken standing = record {
  follows = standing.follows;
  left = standing.left;
  rose = λ has. omega (arith, standing.rose has, grows);
}

-- nothing more is taken of a feed that was removed
pub stand-removed : (items : List Item) (before now : ℕ) (place : Option ℕ) (taken : Taken) → Standing items before now place taken → Standing items before now None taken
stand-removed items before now place taken standing = record { follows = standing.follows; left = λ q e. absurd cc; rose = standing.rose }

-- of a feed that was added nothing is taken
pub stand-new : (items : List Item) (before now p : ℕ) (new : Taken) → new.items ≡ [] → list_at items new.key ≡ list_of (drop p items) → Standing items before now (Some p) new
stand-new items before now p new none list = record {
  follows = inl (list_of (drop p items), list ∙ ap (λ x. x ++ list_of (drop p items)) (sym none));
  left = λ q e. (list ∙ ap (λ x. x ++ list_of (drop p items)) (sym none) ∙ ap (λ r. new.items ++ list_of (drop r items)) cc, subst (All IsRow) (sym none) (All-nil IsRow));
  rose = λ has. absurd (omega (arith, has.1, ap length none));
}

-- a place that is open stands in the list
pub is-within : (places : List (Option ℕ)) (n : ℕ) → is_some (get_or places n None) ≡ true → n < length places
is-within places n there = elim (cases_lt n (length places)) [
  | inl h ↦ h
  | inr h ↦ absurd (false≢true (ap is_some (sym (get_or_past places n None h)) ∙ there))
]
