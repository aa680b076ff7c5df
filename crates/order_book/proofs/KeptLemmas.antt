-- What holds of the orders and the account holds still after an order more, a fill and another order in the place of one.
use Rattle.std.proofs.Common.{◌≡◌, ℕ, ◌+◌, ◌<◌, true, false, List, [], ◌∷◌, ◌++◌, length, set, Some, refl, sym, ap, subst, ◌∙◌, arith, true≢false}
use Rattle.std.specs.List.{slice_get, All}
use Rattle.std.proofs.lemmas.List.{length-set, length_push}
use Rattle.std.proofs.lemmas.List.Elements.{All-push, All-set}
use Rattle.lean_orders.specs.declared.order.Order.{Order}
use Rattle.lean_orders.specs.declared.order.OrderState.{OrderState}
use Rattle.lean_orders.specs.declared.order.OrderState.TheVariants.{Live, Filled, Canceled, Refused}
use Rattle.portfolio.specs.Account.{Account, held}
use Rattle.portfolio.specs.Stands.{fills_applied, most_fills}
use Rattle.clock_book.specs.Books.{is_live}
use Rattle.clock_book.specs.Fitting.{most_orders}
use Rattle.clock_book.specs.Matches.{in_state}
use Rattle.order_book.specs.Resting.{AreKept, RestsWhereLive, is_filled}
use Rattle.order_book.proofs.OrderLemmas.{numbered_push, numbered_set, id_at, count_push, count_set, count_same, count_le, count_lt, filled_one}

pub live_not_filled : (state : OrderState) → is_live state ≡ true → is_filled state ≡ false
live_not_filled Live h = refl
live_not_filled Filled h = absurd (true≢false (sym h))
live_not_filled Canceled h = refl
live_not_filled Refused h = refl

pub few_applied : (account : Account) (orders : List Order) → AreKept account orders → length orders < most_orders → fills_applied account < most_fills
few_applied account orders kept few = omega (arith, kept.applied, count_le orders)

pub fewer_applied : (account : Account) (orders : List Order) (k : ℕ) (o : Order) → AreKept account orders → slice_get orders k ≡ Some o → is_live o.state ≡ true
    → fills_applied account < most_fills
fewer_applied account orders k o kept at lives = omega (arith, kept.applied, kept.few, count_lt orders k o at (live_not_filled o.state lives))

pub kept_push : (account : Account) (orders : List Order) (o : Order) → AreKept account orders → length orders < most_orders → o.id ≡ length orders + 1
    → RestsWhereLive (held account) o → is_filled o.state ≡ false → AreKept account (orders ++ o ∷ [])
kept_push account orders o kept few id rests unfilled = record {
  numbered = numbered_push 1 orders o kept.numbered (omega (arith, id));
  few = omega (arith, length_push orders o);
  resting = All-push (RestsWhereLive (held account)) orders o kept.resting rests;
  applied = omega (arith, kept.applied, count_push orders o, ap filled_one unfilled);
}

rests_dead : (symbols : List (List ℕ)) (o : Order) → is_live o.state ≡ false → RestsWhereLive symbols o
rests_dead symbols o dead lives = absurd (true≢false (sym lives ∙ dead))

resting_same : (old new : Account) (orders : List Order) → held new ≡ held old → All (RestsWhereLive (held old)) orders → All (RestsWhereLive (held new)) orders
resting_same old new orders same h = subst (λ symbols. All (RestsWhereLive symbols) orders) (sym same) h

pub kept_push_filled : (old new : Account) (orders : List Order) (o : Order) → AreKept old orders → length orders < most_orders → o.id ≡ length orders + 1
    → o.state ≡ Filled → held new ≡ held old → fills_applied new ≡ fills_applied old + 1 → AreKept new (orders ++ o ∷ [])
kept_push_filled old new orders o kept few id filled same more = record {
  numbered = numbered_push 1 orders o kept.numbered (omega (arith, id));
  few = omega (arith, length_push orders o);
  resting = All-push (RestsWhereLive (held new)) orders o (resting_same old new orders same kept.resting) (rests_dead (held new) o (ap is_live filled));
  applied = omega (arith, kept.applied, count_push orders o, ap (λ state. filled_one (is_filled state)) filled, more);
}

pub kept_fill : (old new : Account) (orders : List Order) (k : ℕ) (was o : Order) → AreKept old orders → slice_get orders k ≡ Some was → is_live was.state ≡ true → o.id ≡ was.id
    → held new ≡ held old → fills_applied new ≡ fills_applied old + 1 → AreKept new (set orders k (in_state Filled o))
kept_fill old new orders k was o kept at lives id same more = record {
  numbered = numbered_set 1 k orders (in_state Filled o) kept.numbered (id ∙ id_at 1 k orders was kept.numbered at);
  few = omega (arith, length-set orders k (in_state Filled o), kept.few);
  resting = All-set (RestsWhereLive (held new)) orders k (in_state Filled o) (rests_dead (held new) (in_state Filled o) refl) (resting_same old new orders same kept.resting);
  applied = omega (arith, kept.applied, count_set orders k was (in_state Filled o) at (live_not_filled was.state lives), more);
}

pub kept_put : (account : Account) (orders : List Order) (k : ℕ) (old o : Order) → AreKept account orders → slice_get orders k ≡ Some old → is_live old.state ≡ true
    → o.id ≡ 1 + k → RestsWhereLive (held account) o → is_filled o.state ≡ false → AreKept account (set orders k o)
kept_put account orders k old o kept at lives id rests unfilled = record {
  numbered = numbered_set 1 k orders o kept.numbered id;
  few = omega (arith, length-set orders k o, kept.few);
  resting = All-set (RestsWhereLive (held account)) orders k o rests kept.resting;
  applied = omega (arith, kept.applied, count_set orders k old o at (live_not_filled old.state lives), ap filled_one unfilled);
}

pub kept_same : (account : Account) (orders : List Order) (k : ℕ) (old o : Order) → AreKept account orders → slice_get orders k ≡ Some old → o.id ≡ old.id → o.state ≡ old.state
    → RestsWhereLive (held account) o → AreKept account (set orders k o)
kept_same account orders k old o kept at id state rests = record {
  numbered = numbered_set 1 k orders o kept.numbered (id ∙ id_at 1 k orders old kept.numbered at);
  few = omega (arith, length-set orders k o, kept.few);
  resting = All-set (RestsWhereLive (held account)) orders k o rests kept.resting;
  applied = omega (arith, kept.applied, count_same orders k old o at state);
}
