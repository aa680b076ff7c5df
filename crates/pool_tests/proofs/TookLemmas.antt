-- What was taken of a feed by itself, and one item more.
use Rattle.std.proofs.Common.{◌≡◌, ℕ, ◌≤◌, Bool, true, false, List, [], ◌∷◌, ◌++◌, inl, inr, refl, sym, ap, ◌∙◌, append_assoc, arith}
use Rattle.std.specs.Prelude.{not}
use Rattle.std.specs.List.{All, Contains}
use Rattle.std.proofs.lemmas.Bool.{false≢true}
use Rattle.std.proofs.lemmas.List.Elements.{All-push, All-nil, Contains-push_cases}
use Rattle.lean_fixed.specs.Counts.{Rose}
use Rattle.lean_items.specs.declared.item.Item.{Item}
use Rattle.lean_items.specs.declared.item.Item.TheVariants.{Bar, Coarse, Bad, Faulted, End}
use Rattle.lean_items.specs.Given.{is_last, IsRow, IsNext, GivesItem, OnFaulted}
use Rattle.lean_items.specs.Taken.{Follows}

was_faulted : (taken : List Item) (item : Item) → (item ≡ Faulted → ⊥) → Contains (taken ++ item ∷ []) Faulted → Contains taken Faulted
was_faulted taken item other has = elim (Contains-push_cases taken item Faulted has) [ inl h ↦ h | inr h ↦ absurd (other h) ]

module _ {G : Type 0} (leaves : G → List Item → Type 0) (faults : G → ℕ) where
  -- of a feed these items were taken, and more is to come while it is open
  pub record Took (first now : G) (more : Bool) (items : List Item) : Type 0 where
    pub follows : (list : List Item) → leaves first list → Follows list items
    pub left : (list : List Item) → leaves first list → more ≡ true → (rest : List Item) × leaves now rest × (list ≡ items ++ rest)
    pub rows : more ≡ true → All IsRow items
    pub grows : faults first ≤ faults now
    pub rose : Contains items Faulted → Rose (faults first) (faults now)

  pub took-none : (feed : G) → Took feed feed true []
  took-none feed = record {
    follows = λ list is. inl (list, refl);
    left = λ list is e. (list, is, refl);
    rows = λ e. All-nil IsRow;
    grows = omega arith;
    rose = λ has. absurd (omega (arith, has.1));
  }

  module _ (first was is : G) (items : List Item) (took : Took first was true items) (grows : faults was ≤ faults is) where
    row-took : (item : Item) → IsRow item → (item ≡ Faulted → ⊥) → ((list : List Item) → leaves was list → IsNext (leaves is) list item)
        → Took first is true (items ++ item ∷ [])
    row-took item row other gives =
        let left : (list : List Item) → leaves first list → (rest : List Item) × leaves is rest × (list ≡ (items ++ item ∷ []) ++ rest)
        = λ list had. (let now = took.left list had refl in
        let next = gives now.0 now.1 in
        (next.0, next.2, now.2 ∙ ap (λ x. items ++ x) next.1 ∙ sym (append_assoc items (item ∷ []) next.0))) in
        record {
          follows = λ list had. inl ((left list had).0, (left list had).2);
          left = λ list had e. left list had;
          rows = λ e. All-push IsRow items item (took.rows refl) row;
          grows = omega (arith, took.grows, grows);
          rose = λ has. omega (arith, took.rose (was_faulted items item other has), grows);
        }

    last-took : (item : Item) → (item ≡ Faulted → ⊥) → ((list : List Item) → leaves was list → list ≡ item ∷ []) → Took first is false (items ++ item ∷ [])
    last-took item other gives = record {
      follows = λ list had. (let now = took.left list had refl in inl ([], now.2 ∙ ap (λ x. items ++ x) (gives now.0 now.1) ∙ sym (append_assoc items (item ∷ []) [])));
      left = λ list had e. absurd (false≢true e);
      rows = λ e. absurd (false≢true e);
      grows = omega (arith, took.grows, grows);
      rose = λ has. omega (arith, took.rose (was_faulted items item other has), grows);
    }

    fault-took : Rose (faults was) (faults is) → Took first is false (items ++ Faulted ∷ [])
    fault-took rose = record {
      follows = λ list had. (let now = took.left list had refl in inr (items, now.0, refl, now.2, took.rows refl));
      left = λ list had e. absurd (false≢true e);
      rows = λ e. absurd (false≢true e);
      grows = omega (arith, took.grows, grows);
      rose = λ has. omega (arith, took.grows, rose);
    }

    pub took-more : (item : Item) → OnFaulted item (Rose (faults was) (faults is)) → ((list : List Item) → leaves was list → GivesItem (leaves is) list item)
        → Took first is (not (is_last item)) (items ++ item ∷ [])
    took-more (Bar bar) rose gives = row-took (Bar bar) refl (λ e. cc) gives
    took-more (Coarse at row) rose gives = row-took (Coarse at row) refl (λ e. cc) gives
    took-more (Bad bad) rose gives = last-took (Bad bad) (λ e. cc) gives
    took-more Faulted rose gives = fault-took rose
    took-more End rose gives = last-took End (λ e. cc) gives
