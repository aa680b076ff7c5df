-- The next items of feeds by what was given of them, and by what was given of them later.
use Rattle.std.proofs.Common.{◌≡◌, ◌⊎◌, ℕ, Bool, true, false, ℤ, ◌≤ℤ◌, ◌<ℤ◌, List, [], ◌∷◌, ◌++◌, Option, Some, None, option_map, unwrap_or, refl, sym, ap, ◌∙◌, subst, inl, inr, arith, append_assoc, append-nil}
use Rattle.std.specs.Prelude.{int_lt}
use Rattle.std.specs.List.{All, AllZip, find}
use Rattle.std.proofs.lemmas.Bool.{cases_Bool, true≢false}
use Rattle.std.proofs.lemmas.Int.{ints}
use Rattle.std.proofs.lemmas.Option.{none-some}
use Rattle.std.proofs.lemmas.List.Elements.{All-nil, All-cons, All-head, All-tail, All-weaker}
use Rattle.lean_items.specs.declared.arrival.Arrival.{Arrival}
use Rattle.lean_items.specs.declared.item.Item.{Item}
use Rattle.lean_items.specs.declared.item.Item.TheVariants.{Bar, Coarse, Bad, Faulted, End}
use Rattle.lean_items.specs.Given.{end_of}
use Rattle.lean_items.specs.Taken.{Feeds, Taken, more}
use Rattle.frontier_sync.specs.Heads.{stops, EndsFrom}
use Rattle.frontier_sync.specs.Slices.{taken_all}
use Rattle.frontier_sync.specs.Stands.{EndsBefore}
use Rattle.frontier_sync.proofs.StandLemmas.{all-front}
use Rattle.backtest_engine.specs.Meaning.{Subscription}
use Rattle.backtest_engine.specs.Turns.{IsEquity}
use Rattle.backtest_engine.specs.Stands.{IsAt, AreAt, HasMore, IsEarlier}
use Rattle.backtest_engine.specs.Gave.{is_before, next_at, next_in, next_of, IsQuiet, AreQuiet, IsSound, AreSound, IsStop}

-- ---- more was taken

pub earlier-same : (feeds : Feeds) → IsEarlier feeds feeds
earlier-same feeds = ((λ lists follow. follow), λ n taken at. ([], at ∙ ap (λ xs. let o : Option Taken = Some (record { key = taken.key; items = xs }) in o) (sym (append-nil taken.items))))

pub earlier-then : (feeds mid now : Feeds) → IsEarlier feeds mid → IsEarlier mid now → IsEarlier feeds now
earlier-then feeds mid now first then = (
  (λ lists follow. first.0 lists (then.0 lists follow)),
  λ n taken at.
      (let (xs, is) = first.1 n taken at in
      let (ys, has) = then.1 n (more xs taken) is in
      (xs ++ ys, has ∙ ap (λ zs. let o : Option Taken = Some (record { key = taken.key; items = zs }) in o) (append_assoc taken.items xs ys))),
)

pub earlier-taken : (feeds : Feeds) (taken : ℕ → List Item) → IsEarlier feeds (taken_all feeds taken)
earlier-taken feeds taken = (
  (λ lists follow. all-front lists feeds taken follow),
  λ n t at. (taken n, ap (option_map (more (taken n))) at),
)

-- ---- the next item

before-is : (t e : ℤ) → e <ℤ t → int_lt e t ≡ true
before-is t e h = grind (arith, ints)

from-is : (t e : ℤ) → t ≤ℤ e → int_lt e t ≡ false
from-is t e h = grind (arith, ints)

item-before : (t : ℤ) (x : Item) → EndsBefore t (end_of x) → is_before t x ≡ true
item-before t (Bar bar) h = before-is t bar.end.0 h
item-before t (Coarse at row) h = before-is t at.0 h
item-before t (Bad bad) h = absurd h
item-before t Faulted h = absurd h
item-before t End h = absurd h

item-from : (t : ℤ) (x : Item) → EndsFrom t (end_of x) → is_before t x ≡ false
item-from t (Bar bar) h = from-is t bar.end.0 h
item-from t (Coarse at row) h = from-is t at.0 h
item-from t (Bad bad) h = refl
item-from t Faulted h = refl
item-from t End h = refl

next-past : (t : ℤ) (given rest : List Item) (x : Item) → All (λ y. EndsBefore t (end_of y)) given → EndsFrom t (end_of x) → next_at t (given ++ x ∷ rest) ≡ Some x
next-past t [] rest x all from = rw (item-from t x from) refl
next-past t (y ∷ given) rest x all from =
    let B : Item → Type 0 = λ z. EndsBefore t (end_of z) in
    rw (item-before t y (All-head B y given all)) (next-past t given rest x (All-tail B y given all) from)

next-more : (t : ℤ) (items rest : List Item) (x : Item) → next_at t items ≡ Some x → next_at t (items ++ rest) ≡ Some x
next-more t [] rest x e = absurd (none-some x e)
next-more t (y ∷ items) rest x e = elim (cases_Bool (is_before t y)) [
  | inl past ↦
      (let step : next_at t (y ∷ items) ≡ next_at t items = rw past refl in
      rw past (next-more t items rest x (sym step ∙ e)))
  | inr here ↦
      (let is : next_at t (y ∷ items) ≡ Some y = rw here refl in
      rw here (sym is ∙ e))
]

later-next : (feeds now : Feeds) (t : ℤ) (f : Subscription) (x : Item) → HasMore feeds now → next_of feeds t f ≡ Some x → next_of now t f ≡ Some x
later-next feeds now t f x has e = by (feeds f.feed) refl e
  where
    by : (o : Option Taken) → feeds f.feed ≡ o → next_in t o ≡ Some x → next_of now t f ≡ Some x
    by None is h = absurd (none-some x h)
    by (Some taken) is h =
        let (rest, at) = has f.feed taken is in
        ap (next_in t) at ∙ next-more t taken.items rest x h

pub later-quiet : (feeds now : Feeds) (t : ℤ) (active : List Subscription) → HasMore feeds now → AreQuiet feeds t active → AreQuiet now t active
later-quiet feeds now t active has all =
    All-weaker (IsQuiet feeds t) (IsQuiet now t) (λ f h. (h.0, later-next feeds now t f h.0 has h.1, h.2)) active all

pub later-sound : (feeds now : Feeds) (t : ℤ) (active : List Subscription) → HasMore feeds now → AreSound feeds t active → AreSound now t active
later-sound feeds now t active has all =
    All-weaker (IsSound feeds t) (IsSound now t) (λ f h. (h.0, later-next feeds now t f h.0 has h.1, h.2)) active all

sound-of : (x : Item) → stops x ≡ false → x ≡ Faulted → ⊥
sound-of x h is = true≢false (sym (ap stops is) ∙ h)

pub quiet-sound : (feeds : Feeds) (t : ℤ) (active : List Subscription) → AreQuiet feeds t active → AreSound feeds t active
quiet-sound feeds t active all =
    All-weaker (IsQuiet feeds t) (IsSound feeds t) (λ f h. (h.0, h.1, inl (sound-of h.0 h.2))) active all

-- ---- the heads are the next items

module _ (coarse : Bool) (t : ℤ) (feeds : Feeds) where
  head-next : (a : Arrival) (f : Subscription) → IsAt coarse t feeds a f → next_of feeds t f ≡ Some a.item
  head-next a f i =
      ap (next_in t) i.there ∙ ap (next_at t) i.head.is ∙ next-past t i.head.given [] a.item i.head.before i.head.from

  pub heads-quiet : (heads : List Arrival) (active : List Subscription) → AreAt coarse t feeds heads active → All (λ a. stops a.item ≡ false) heads → AreQuiet feeds t active
  heads-quiet [] [] at calm = All-nil (IsQuiet feeds t)
  heads-quiet [] (f ∷ active) at calm = absurd at
  heads-quiet (a ∷ heads) [] at calm = absurd at
  heads-quiet (a ∷ heads) (f ∷ active) (i, at) calm =
      let Q : Arrival → Type 0 = λ b. stops b.item ≡ false in
      All-cons (IsQuiet feeds t) f active (a.item, head-next a f i, All-head Q a heads calm) (heads-quiet heads active at (All-tail Q a heads calm))

  pub heads-sound : (heads : List Arrival) (active : List Subscription) → AreAt coarse t feeds heads active
      → AllZip (λ (a : Arrival) (f : Subscription). (a.item ≡ Faulted → ⊥) ⊎ IsEquity f.key.kind) heads active → AreSound feeds t active
  heads-sound [] [] at whole = All-nil (IsSound feeds t)
  heads-sound [] (f ∷ active) at whole = absurd at
  heads-sound (a ∷ heads) [] at whole = absurd at
  heads-sound (a ∷ heads) (f ∷ active) (i, at) (kind, whole) =
      All-cons (IsSound feeds t) f active (a.item, head-next a f i, kind) (heads-sound heads active at whole)

  pub heads-stop : (heads : List Arrival) (active : List Subscription) (a : Arrival) → AreAt coarse t feeds heads active → find (λ (x : Arrival). stops x.item) heads ≡ Some a → IsStop feeds t active a.item
  heads-stop [] [] a at found = absurd (none-some a found)
  heads-stop [] (f ∷ active) a at found = absurd at
  heads-stop (h ∷ heads) [] a at found = absurd at
  heads-stop (h ∷ heads) (f ∷ active) a (i, at) found = elim (cases_Bool (stops h.item)) [
    | inl stop ↦
        (let here : find (λ (x : Arrival). stops x.item) (h ∷ heads) ≡ Some h = rw stop refl in
        let same : h ≡ a = ap (λ (o : Option Arrival). unwrap_or o h) (sym here ∙ found) in
        inl (subst (λ (b : Arrival). (next_of feeds t f ≡ Some b.item) × (stops b.item ≡ true)) same (head-next h f i, stop)))
    | inr other ↦
        (let later : find (λ (x : Arrival). stops x.item) (h ∷ heads) ≡ find (λ (x : Arrival). stops x.item) heads = rw other refl in
        inr ((h.item, head-next h f i, other), heads-stop heads active a at (sym later ∙ found)))
  ]
