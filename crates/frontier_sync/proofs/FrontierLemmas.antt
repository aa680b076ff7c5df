-- The least end of some heads.
use Rattle.std.proofs.Common.{◌≡◌, ℕ, ◌+◌, ◌<◌, Bool, true, false, cond, ℤ, ◌≤ℤ◌, List, [], ◌∷◌, ◌++◌, length, length-append, take, get_or, Option, Some, None, option_map, refl, sym, ap, ◌∙◌, subst, arith}
use Rattle.std.specs.Prelude.{int_lt}
use Rattle.std.specs.List.{Any}
use Rattle.std.proofs.lemmas.Int.{ints}
use Rattle.std.proofs.lemmas.List.{take_more, get_or_append_left}
use Rattle.std.proofs.lemmas.List.Elements.{All-push, All-weaker}
use Rattle.std.proofs.lemmas.List.Quantifiers.{Any-push}
use Rattle.lean_fixed.specs.declared.time.Moment.{Moment}
use Rattle.lean_items.specs.declared.arrival.Arrival.{Arrival}
use Rattle.lean_items.specs.Given.{end_of}
use Rattle.frontier_sync.specs.Heads.{EndsFrom, IsFrontier, earlier}

lt-true : (a b : ℤ) → int_lt a b ≡ true → a ≤ℤ b
lt-true a b h = grind (arith, ints)

lt-false : (a b : ℤ) → int_lt a b ≡ false → b ≤ℤ a
lt-false a b h = grind (arith, ints)

none-from : (t : ℤ) (e : Option ℤ) → e ≡ None → EndsFrom t e
none-from t e h = subst (λ o. EndsFrom t o) (sym h) tt

lower-from : (t s : ℤ) (e : Option ℤ) → t ≤ℤ s → EndsFrom s e → EndsFrom t e
lower-from t s None h from = tt
lower-from t s (Some e) h from = omega (arith, ints)

any-push : (P : Arrival → Type 0) (xs : List Arrival) (a : Arrival) → Any P xs → Any P (xs ++ a ∷ [])
any-push P xs a (k, x, within, at, h) =
    (k, x, omega (arith, length-append xs (a ∷ [])), get_or_append_left xs (a ∷ []) x k within ∙ at, h)

-- one head more
pub frontier-push : (xs : List Arrival) (a : Arrival) (least end : Option Moment) → IsFrontier xs least
    → option_map (λ t. t.0) end ≡ end_of a.item → IsFrontier (xs ++ a ∷ []) (earlier least end)
frontier-push xs a None None all is = All-push (λ b. end_of b.item ≡ None) xs a all (sym is)
frontier-push xs a None (Some e) all is = (
  Any-push (λ b. end_of b.item ≡ Some e.0) xs a (sym is),
  All-push (λ b. EndsFrom e.0 (end_of b.item)) xs a
      (All-weaker (λ b. end_of b.item ≡ None) (λ b. EndsFrom e.0 (end_of b.item)) (λ b h. none-from e.0 (end_of b.item) h) xs all)
      (subst (λ o. EndsFrom e.0 o) is (omega (arith, ints))),
)
frontier-push xs a (Some f) None all is = (
  any-push (λ b. end_of b.item ≡ Some f.0) xs a all.0,
  All-push (λ b. EndsFrom f.0 (end_of b.item)) xs a all.1 (subst (λ o. EndsFrom f.0 o) is tt),
)
frontier-push xs a (Some f) (Some e) all is = step (int_lt e.0 f.0) refl
  where
    step : (b : Bool) → int_lt e.0 f.0 ≡ b → IsFrontier (xs ++ a ∷ []) (Some (cond b e f))
    step true less =
        let below : e.0 ≤ℤ f.0 = lt-true e.0 f.0 less in (
          Any-push (λ b. end_of b.item ≡ Some e.0) xs a (sym is),
          All-push (λ b. EndsFrom e.0 (end_of b.item)) xs a
              (All-weaker (λ b. EndsFrom f.0 (end_of b.item)) (λ b. EndsFrom e.0 (end_of b.item)) (λ b h. lower-from e.0 f.0 (end_of b.item) below h) xs all.1)
              (subst (λ o. EndsFrom e.0 o) is (omega (arith, ints))),
        )
    step false no_less =
        let above : f.0 ≤ℤ e.0 = lt-false e.0 f.0 no_less in (
          any-push (λ b. end_of b.item ≡ Some f.0) xs a all.0,
          All-push (λ b. EndsFrom f.0 (end_of b.item)) xs a all.1 (subst (λ o. EndsFrom f.0 o) is above),
        )

pub frontier-more : (xs : List Arrival) (i : ℕ) (a : Arrival) (least end : Option Moment) → i < length xs → a ≡ get_or xs i a
    → IsFrontier (take i xs) least → option_map (λ t. t.0) end ≡ end_of a.item → IsFrontier (take (i + 1) xs) (earlier least end)
frontier-more xs i a least end within at all is =
    subst (λ ys. IsFrontier ys (earlier least end)) (ap (λ x. take i xs ++ x ∷ []) at ∙ sym (take_more xs i a within))
    (frontier-push (take i xs) a least end all is)
