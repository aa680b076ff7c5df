-- What was given of a feed stays what it is while the feed gives its next item.
use Rattle.std.proofs.Common.{◌≡◌, ℕ, ◌≤◌, Bool, true, false, List, [], ◌∷◌, ◌++◌, Option, Some, None, inl, inr, refl, sym, ap, ◌∙◌, subst, append_assoc, arith}
use Rattle.std.specs.List.{All, Contains}
use Rattle.std.proofs.lemmas.Bool.{false≢true}
use Rattle.std.proofs.lemmas.List.{append-nil}
use Rattle.std.proofs.lemmas.List.Elements.{All-nil, All-push, All-same, All-contains, Contains-push, Contains-push_cases}
use Rattle.lean_fixed.specs.Counts.{Rose}
use Rattle.lean_items.specs.declared.item.Item.{Item}
use Rattle.lean_items.specs.declared.item.Item.TheVariants.{Bar, Coarse, Bad, Faulted, End}
use Rattle.lean_items.specs.Given.{is_last, IsRow, IsNext, GivesItem, OnFaulted}
use Rattle.work_scheduler.specs.Served.{held_items, IsServed}

-- a failed read is among the items only if it was, or if it was given now
was_faulted : (items : List Item) (item : Item) → (item ≡ Faulted → ⊥) → Contains (items ++ item ∷ []) Faulted → Contains items Faulted
was_faulted items item other has = elim (Contains-push_cases items item Faulted has) [ inl h ↦ h | inr h ↦ absurd (other h) ]

none_in : (items : List Item) → items ≡ [] → Contains items Faulted → ⊥
none_in items none has = let in_none : Contains [] Faulted = subst (λ l. Contains l Faulted) none has in omega (arith, in_none.1)

rose-later : (before now later : ℕ) → Rose before now → now ≤ later → Rose before later
rose-later before now later rose grows = omega (arith, rose, grows)

rose-since : (before now later : ℕ) → before ≤ now → Rose now later → Rose before later
rose-since before now later since rose = omega (arith, since, rose)

-- the item in hand was sent
pub given-sent : (sent more : List Item) (held : Option Item) (item : Item) → held ≡ Some item → more ≡ sent ++ item ∷ []
    → more ++ held_items None ≡ sent ++ held_items held
given-sent sent more held item there is = append-nil more ∙ is ∙ ap (λ h. sent ++ held_items h) (sym there)

module _ {G : Type 0} (leaves : G → List Item → Type 0) (ended : G → Bool) (faults : G → ℕ) where
  -- nothing was given of a feed that has not ended
  pub served-new : (told : Option (List Item)) (feed : G) (given : List Item) → given ≡ [] → ended feed ≡ false
      → ((list : List Item) → told ≡ Some list → leaves feed list) → IsServed leaves ended faults told (faults feed) feed given
  served-new told feed given none fresh tells = record {
    follows = λ list is. inl (list, ap (λ g. g ++ list) (sym none));
    left = λ list is runs. (list, tells list is, ap (λ g. g ++ list) (sym none));
    rows = λ runs. All-same IsRow given [] none (All-nil IsRow);
    last = λ over rows. false≢true (sym fresh ∙ over);
    since = omega arith;
    rose = λ has. absurd (none_in given none has);
  }

  module _ (told : Option (List Item)) (before : ℕ) (was is : G) (given : List Item) (runs : ended was ≡ false)
      (served : IsServed leaves ended faults told before was given) (grows : faults was ≤ faults is) where
    since-given : before ≤ faults is
    since-given = omega (arith, served.since, grows)

    -- a row was given
    row-given : (item : Item) → IsRow item → (item ≡ Faulted → ⊥) → ended is ≡ false
        → ((list : List Item) → leaves was list → IsNext (leaves is) list item)
        → IsServed leaves ended faults told before is (given ++ item ∷ [])
    row-given item row other still gives =
        let left : (list : List Item) → told ≡ Some list → (rest : List Item) × leaves is rest × (list ≡ (given ++ item ∷ []) ++ rest)
        = λ list tells. (let had = served.left list tells runs in
        let next = gives had.0 had.1 in
        (next.0, next.2, had.2 ∙ ap (λ x. given ++ x) next.1 ∙ sym (append_assoc given (item ∷ []) next.0))) in
        record {
          follows = λ list tells. inl ((left list tells).0, (left list tells).2);
          left = λ list tells e. ((left list tells).0, (left list tells).1, (left list tells).2);
          rows = λ e. All-push IsRow given item (served.rows runs) row;
          last = λ over rows. false≢true (sym still ∙ over);
          since = since-given;
          rose = λ has. rose-later before (faults was) (faults is) (served.rose (was_faulted given item other has)) grows;
        }

    -- no row: the feed is over
    no_rows : (item : Item) → is_last item ≡ true → All IsRow (given ++ item ∷ []) → ⊥
    no_rows item ends rows = false≢true (sym (All-contains IsRow (given ++ item ∷ []) item rows (Contains-push given item)) ∙ ends)

    -- a last item was given that stands in the list
    last-given : (item : Item) → is_last item ≡ true → (item ≡ Faulted → ⊥) → ended is ≡ true
        → ((list : List Item) → leaves was list → list ≡ item ∷ [])
        → IsServed leaves ended faults told before is (given ++ item ∷ [])
    last-given item ends other over gives = record {
      follows = λ list tells. (let had = served.left list tells runs in
          inl ([], had.2 ∙ ap (λ x. given ++ x) (gives had.0 had.1) ∙ sym (append_assoc given (item ∷ []) [])));
      left = λ list tells e. absurd (false≢true (sym e ∙ over));
      rows = λ e. absurd (false≢true (sym e ∙ over));
      last = λ e rows. no_rows item ends rows;
      since = since-given;
      rose = λ has. rose-later before (faults was) (faults is) (served.rose (was_faulted given item other has)) grows;
    }

    -- a read failed in place of the next item
    fault-given : ended is ≡ true → Rose (faults was) (faults is) → IsServed leaves ended faults told before is (given ++ Faulted ∷ [])
    fault-given over rose = record {
      follows = λ list tells. (let had = served.left list tells runs in inr (given, had.0, refl, had.2, served.rows runs));
      left = λ list tells e. absurd (false≢true (sym e ∙ over));
      rows = λ e. absurd (false≢true (sym e ∙ over));
      last = λ e rows. no_rows Faulted refl rows;
      since = since-given;
      rose = λ has. rose-since before (faults was) (faults is) served.since rose;
    }

    item-given : (item : Item) → ended is ≡ is_last item → OnFaulted item (Rose (faults was) (faults is))
        → ((list : List Item) → leaves was list → GivesItem (leaves is) list item)
        → IsServed leaves ended faults told before is (given ++ item ∷ [])
    item-given (Bar bar) ends rose gives = row-given (Bar bar) refl (λ e. cc) ends gives
    item-given (Coarse at row) ends rose gives = row-given (Coarse at row) refl (λ e. cc) ends gives
    item-given (Bad bad) ends rose gives = last-given (Bad bad) refl (λ e. cc) ends gives
    item-given Faulted ends rose gives = fault-given ends rose
    item-given End ends rose gives = last-given End refl (λ e. cc) ends gives

  -- the next item was given, with none in hand, and is now in hand
  pub served-drawn : (told : Option (List Item)) (before : ℕ) (was is : G) (sent : List Item) (held : Option Item) (item : Item) → held ≡ None
      → ended was ≡ false → ended is ≡ is_last item → faults was ≤ faults is → OnFaulted item (Rose (faults was) (faults is))
      → ((list : List Item) → leaves was list → GivesItem (leaves is) list item)
      → IsServed leaves ended faults told before was (sent ++ held_items held)
      → IsServed leaves ended faults told before is (sent ++ held_items (Some item))
  served-drawn told before was is sent held item none runs ends grows rose gives served =
      let same : sent ++ held_items held ≡ sent = ap (λ h. sent ++ held_items h) none ∙ append-nil sent in
      item-given told before was is sent runs (subst (λ l. IsServed leaves ended faults told before was l) same served) grows item ends rose gives
