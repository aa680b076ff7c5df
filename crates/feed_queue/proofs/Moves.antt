-- Each kind of step keeps the rule of a lane, and what an end learns by it.
use Rattle.std.proofs.Common.{◌≡◌, ◌≢◌, ℕ, zero, suc, true, false, true≢false, List, [], ◌∷◌, ◌++◌, length, set, sym, refl, ap, ◌∙◌, subst, ⊎_elim, append_assoc}
use mathlib.Core.Option.{some, some-ne-none}
use lib.ListN.{get_elem?}
use Rattle.crossbeam_queue.specs.Fifo.{Pushes, Pops, Forks, Merges, Learns}
use Rattle.crossbeam_queue.proofs.Lists.{at_set, at_snoc}
use Rattle.feed_queue.specs.declared.rule.Role.TheVariants.{Both, Writing, Reading, Spent}
use Rattle.feed_queue.specs.declared.rule.View.{View}
use Rattle.feed_queue.specs.Rule.{may_send, may_take, view_of, Fits, InOrder, SomeTaken, SomeSent, IsTotal}

module _ {T : Type 0} where
  at_end : (l : List (View T)) (a b : View T) (j : ℕ) → get_elem? l j ≢ some b → get_elem? (l ++ a ∷ []) j ≡ some b → j ≡ length l
  at_end [] a b zero n e = refl
  at_end [] a b (suc j) n e = absurd (some-ne-none b (sym e))
  at_end (x ∷ xs) a b zero n e = absurd (n e)
  at_end (x ∷ xs) a b (suc j) n e = ap suc (at_end xs a b j n e)

  abbrev Each : (ℕ → View T → Type 0) → List (View T) → Type 0
  Each F views = (place : ℕ) (v : View T) → get_elem? views place ≡ some v → F place v

  each-set : (F : ℕ → View T → Type 0) (views : List (View T)) (place : ℕ) (w : View T) → F place w
      → ((j : ℕ) (u : View T) → j ≢ place → get_elem? views j ≡ some u → F j u) → Each F (set views place w)
  each-set F views place w mine others j u e = ⊎_elim (λ (x : (j ≡ place) × (w ≡ u)). subst (λ (y : ℕ × View T). F y.0 y.1) (λ i. (sym x.0 i, x.1 i)) mine)
      (λ (x : (j ≢ place) × (get_elem? views j ≡ some u)). others j u x.0 x.1) (at_set views place j w u e)

  pub begins : InOrder {T = T} [] (view_of Both [] [] ∷ [])
  begins =
      let first : View T = view_of Both [] [] in (
        0,
        0,
        [],
        [],
        refl,
        each-set (Fits 0 0 [] []) (first ∷ []) 0 first ((λ _. (refl, refl)), (λ _. (refl, refl)), (λ p. refl), (λ p. refl))
            (λ j u other e. absurd (other (at_end [] first u j (λ x. some-ne-none u (sym x)) e))),
      )

  pub sends : (n place : ℕ) (v : View T) (x : T) → may_send v.role ≡ true
      → Pushes InOrder n place v x (λ w. w ≡ view_of v.role (v.sent ++ x ∷ []) v.taken)
  sends n place v x may items views _ h at =
      let w : View T = view_of v.role (v.sent ++ x ∷ []) v.taken in
      let mine = h.5 place v at in
      let sent = h.2 ++ x ∷ [] in (
        w,
        (
          h.0,
          h.1,
          sent,
          h.3,
          ap (λ l. l ++ x ∷ []) h.4 ∙ append_assoc h.3 items (x ∷ []),
          each-set (Fits h.0 h.1 sent h.3) views place w
              ((λ _. ((mine.0 may).0, ap (λ l. l ++ x ∷ []) (mine.0 may).1)), mine.1, (λ no. absurd (true≢false (sym may ∙ no))), mine.3)
              (λ j u other e. ((λ p. absurd (other (((h.5 j u e).0 p).0 ∙ sym (mine.0 may).0))), (h.5 j u e).1, (h.5 j u e).2, (h.5 j u e).3)),
        ),
        refl,
      )

  pub takes : (place : ℕ) (v : View T) → may_take v.role ≡ true
      → Pops InOrder place v (λ x w. w ≡ view_of v.role v.sent (v.taken ++ x ∷ []))
  takes place v may x items views h at =
      let w : View T = view_of v.role v.sent (v.taken ++ x ∷ []) in
      let mine = h.5 place v at in
      let taken = h.3 ++ x ∷ [] in (
        w,
        (
          h.0,
          h.1,
          h.2,
          taken,
          h.4 ∙ sym (append_assoc h.3 (x ∷ []) items),
          each-set (Fits h.0 h.1 h.2 taken) views place w
              (mine.0, (λ _. ((mine.1 may).0, ap (λ l. l ++ x ∷ []) (mine.1 may).1)), mine.2, (λ no. absurd (true≢false (sym may ∙ no))))
              (λ j u other e. ((h.5 j u e).0, (λ p. absurd (other (((h.5 j u e).1 p).0 ∙ sym (mine.1 may).0))), (h.5 j u e).2, (h.5 j u e).3)),
        ),
        refl,
      )

  pub forks : (place : ℕ) (v : View T) → v.role ≡ Both
      → Forks InOrder place v (view_of Writing v.sent []) (view_of Reading [] v.taken)
  forks place v both items views h at =
      let l : View T = view_of Writing v.sent [] in
      let r : View T = view_of Reading [] v.taken in
      let mine = h.5 place v at in
      let a : may_send v.role ≡ true = ap may_send both in
      let b : may_take v.role ≡ true = ap may_take both in
      let vs : List (View T) = set views place l in
      let Old : ℕ → View T → Type 0 = λ j u. (may_send u.role ≡ true → (j ≡ h.0) × (u.sent ≡ h.2)) × (may_take u.role ≢ true)
      × (may_send u.role ≡ false → u.sent ≡ []) × (may_take u.role ≡ false → u.taken ≡ []) in
      let old : Each Old vs = each-set Old views place l ((λ _. mine.0 a), (λ p. true≢false (sym p)), (λ p. absurd (true≢false p)), (λ p. refl))
      (λ j u other e. ((h.5 j u e).0, (λ p. other (((h.5 j u e).1 p).0 ∙ sym (mine.1 b).0)), (h.5 j u e).2, (h.5 j u e).3)) in (
        h.0,
        length vs,
        h.2,
        h.3,
        h.4,
        λ j u e. ⊎_elim (λ x. ((old j u x).0, (λ p. absurd ((old j u x).1 p)), (old j u x).2, (old j u x).3))
            (λ (is : r ≡ u). (
              (λ p. absurd (true≢false (sym (ap (λ (y : View T). may_send y.role) is ∙ p)))),
              (λ p. (at_end vs r u j (λ x. (old j u x).1 p) e, ap (λ (y : View T). y.taken) (sym is) ∙ (mine.1 b).1)),
              (λ p. ap (λ (y : View T). y.sent) (sym is)),
              (λ p. absurd (true≢false (ap (λ (y : View T). may_take y.role) is ∙ p))),
            )) (at_snoc vs r u j e),
      )

  pub merges : (place : ℕ) (v : View T) (other : ℕ) (u : View T) → v.role ≡ Writing → u.role ≡ Reading
      → Merges InOrder place v other u (view_of Both v.sent u.taken) (view_of Spent [] [])
  merges place v other u writes reads items views h at two at' =
      let a : may_send v.role ≡ true = ap may_send writes in
      let b : may_take u.role ≡ true = ap may_take reads in
      let both : View T = view_of Both v.sent u.taken in
      let mine = h.5 place v at in
      let vs : List (View T) = set views place both in
      let was : get_elem? views other ≡ some u = ⊎_elim (λ x. absurd (two x.0)) (λ x. x.1) (at_set views place other both u at') in
      let theirs = (h.5 other u was).1 b in
      let Now : ℕ → View T → Type 0 = λ j y. j ≢ other → Fits h.0 place h.2 h.3 j y in
      let now : Each Now vs = each-set Now views place both (λ _. ((λ _. mine.0 a), (λ _. (refl, theirs.1)), (λ p. absurd (true≢false p)), (λ p. absurd (true≢false p))))
      (λ j y _ e apart. ((h.5 j y e).0, (λ p. absurd (apart (((h.5 j y e).1 p).0 ∙ sym theirs.0))), (h.5 j y e).2, (h.5 j y e).3)) in (
        h.0,
        place,
        h.2,
        h.3,
        h.4,
        each-set (Fits h.0 place h.2 h.3) vs other (view_of Spent [] [])
            ((λ p. absurd (true≢false (sym p))), (λ p. absurd (true≢false (sym p))), (λ p. refl), (λ p. refl)) (λ j y apart e. now j y e apart),
      )

  pub writers : (place : ℕ) (v : View T) → may_send v.role ≡ true → Learns InOrder place v (λ items. SomeTaken v.sent items)
  writers place v may items views h at = (h.3, ((h.5 place v at).0 may).1 ∙ h.4)

  pub readers : (place : ℕ) (v : View T) → may_take v.role ≡ true → Learns InOrder place v (λ items. SomeSent v.taken items)
  readers place v may items views h at = (h.2, h.4 ∙ ap (λ l. l ++ items) (sym ((h.5 place v at).1 may).1))

  pub totals : (place : ℕ) (v : View T) → v.role ≡ Both → Learns InOrder place v (λ items. IsTotal v items)
  totals place v both items views h at =
      let mine = h.5 place v at in
      (mine.0 (ap may_send both)).1 ∙ h.4 ∙ ap (λ l. l ++ items) (sym (mine.1 (ap may_take both)).1)
