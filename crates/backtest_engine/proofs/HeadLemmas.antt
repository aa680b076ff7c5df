-- The heads of the active feeds in the lists of their keys, from one moment to the next.
use Rattle.std.proofs.Common.{◌≡◌, ℕ, ◌<◌, ◌⊎◌, Bool, true, false, ℤ, pos, ◌+ℤ◌, ◌≤ℤ◌, ◌<ℤ◌, List, [], ◌∷◌, ◌++◌, map, Option, Some, None, option_map, unwrap_or, refl, sym, ap, ◌∙◌, subst, inl, inr, arith, append-nil, append_assoc}
use Rattle.std.specs.Prelude.{◌&&◌, ◌==◌, int_le}
use Rattle.std.specs.List.{All, AllZip, Contains, filter, find}
use Rattle.std.specs.Option.{option_or}
use Rattle.std.proofs.lemmas.Bool.{cases_Bool, true≢false}
use Rattle.std.proofs.lemmas.Int.{ints}
use Rattle.std.proofs.lemmas.Option.{none-some}
use Rattle.std.proofs.lemmas.List.Elements.{All-head, All-tail, All-weaker, Contains-append_left, Contains-push}
use Rattle.lean_items.specs.declared.arrival.Arrival.{Arrival}
use Rattle.lean_items.specs.declared.bad.Bad.{Bad as BadLine}
use Rattle.lean_items.specs.declared.feed_key.FeedKey.{FeedKey}
use Rattle.lean_items.specs.declared.feed_no.FeedNo.{FeedNo}
use Rattle.lean_items.specs.declared.item.Item.{Item}
use Rattle.lean_items.specs.declared.item.Item.TheVariants.{Bar, Coarse, Bad, Faulted, End}
use Rattle.lean_items.specs.Given.{end_of}
use Rattle.lean_items.specs.Taken.{Feeds, Taken, Follows, AllFollow, more}
use Rattle.frontier_sync.specs.Heads.{arrival, stops, EndsFrom, AreRising}
use Rattle.frontier_sync.specs.Slices.{ends_at, given_of, slice_of, Refilled, IsSliced, taken_all}
use Rattle.frontier_sync.specs.Stands.{EndsBefore, AtHead, AreBars, IsList}
use Rattle.frontier_sync.proofs.StandLemmas.{feed-step, none-taken, head-later, stood}
use Rattle.backtest_engine.specs.Lists.{due, slice_at, refused}
use Rattle.backtest_engine.specs.Meaning.{Subscription}
use Rattle.backtest_engine.specs.Turns.{IsEquity}
use Rattle.backtest_engine.specs.Stands.{AreLists, AreAt, AreCalm, broken, is_faulted}

-- ---- a failed read stays the head

cons-same : (x y : Item) (xs ys : List Item) → (let l : List Item = x ∷ xs in l) ≡ y ∷ ys → x ≡ y
cons-same x y xs ys e = ap (head-of x) e
  where
    head-of : Item → List Item → Item
    head-of d [] = d
    head-of d (z ∷ zs) = z

faulted-next : (t : ℤ) (taken : List Item) (next : Item) → Refilled t Faulted taken next → (taken ≡ []) × (next ≡ Faulted)
faulted-next t taken next r =
    let none : taken ≡ [] = r.idle refl in
    let kept : (let l : List Item = Faulted ∷ [] in l) ≡ next ∷ [] = (let P : List Item → Type 0 = λ xs. Refilled t Faulted xs next in (subst P none r).kept) in
    (none, sym (cons-same Faulted next [] [] kept))

faulted-step : (t : ℤ) (items taken : List Item) (next : Item) (list : List Item) → AtHead t items Faulted → Refilled t Faulted taken next
    → filter (ends_at t) list ≡ [] → AtHead (t +ℤ pos 1) (items ++ taken) next × (given_of t Faulted taken ≡ filter (ends_at t) list)
faulted-step t items taken next list s r calm =
    let (none, is) = faulted-next t taken next r in
    let later : AtHead (t +ℤ pos 1) items Faulted = head-later t (t +ℤ pos 1) items Faulted (omega (arith, ints)) s tt in (
      subst (λ x. AtHead (t +ℤ pos 1) (items ++ taken) x) (sym is) (subst (λ xs. AtHead (t +ℤ pos 1) xs Faulted) (sym (append-nil items) ∙ ap (λ xs. items ++ xs) (sym none)) later),
      ap (given_of t Faulted) none ∙ sym calm,
    )

is-faulted : (x : Item) → (x ≡ Faulted) ⊎ (x ≡ Faulted → ⊥)
is-faulted (Bar bar) = inr (λ e. true≢false (ap is_faulted (sym e)))
is-faulted (Coarse at row) = inr (λ e. true≢false (ap is_faulted (sym e)))
is-faulted (Bad bad) = inr (λ e. true≢false (ap is_faulted (sym e)))
is-faulted Faulted = inl refl
is-faulted End = inr (λ e. true≢false (ap is_faulted (sym e)))

-- one feed from a moment to the next
one-step : (t : ℤ) (items : List Item) (head : Item) (taken : List Item) (next : Item) (list : List Item) → IsList list → AtHead t items head
    → Refilled t head taken next → Follows list (items ++ taken) → (head ≡ Faulted → filter (ends_at t) list ≡ []) → (next ≡ Faulted → ⊥) ⊎ AreBars list
    → AtHead (t +ℤ pos 1) (items ++ taken) next × (given_of t head taken ≡ filter (ends_at t) list)
one-step t items head taken next list l s r follows calm whole = elim (is-faulted head) [
  | inl is ↦
      (let P : Item → Type 0 = λ x. AtHead t items x → Refilled t x taken next → AtHead (t +ℤ pos 1) (items ++ taken) next × (given_of t x taken ≡ filter (ends_at t) list) in
      let here : P Faulted = λ s r. faulted-step t items taken next list s r (calm is) in
      subst P (sym is) here s r)
  | inr sound ↦ feed-step t items head taken next list l s r follows sound whole
]

in-middle : (xs : List Item) (x : Item) (ys : List Item) → Contains (xs ++ x ∷ ys) x
in-middle xs x ys = subst (λ l. Contains l x) (append_assoc xs (x ∷ []) ys) (Contains-append_left (xs ++ x ∷ []) ys x (Contains-push xs x))

-- ---- all feeds

-- the next head is no failed read, or its feed has bars
abbrev pub IsWhole : Arrival → Subscription → Type 0
IsWhole b f = (b.item ≡ Faulted → ⊥) ⊎ IsEquity f.key.kind

module _ (lists : FeedKey → List Item) (are : AreLists lists) (coarse : Bool) where
  pub all-step : (t : ℤ) (feeds : Feeds) (taken : ℕ → List Item) (heads after : List Arrival) (active : List Subscription)
      → AllFollow lists (taken_all feeds taken) → AreAt coarse t feeds heads active → AreCalm lists t heads active → IsSliced t taken heads after
      → AllZip IsWhole after active
      → AreAt coarse (t +ℤ pos 1) (taken_all feeds taken) after active × (slice_of t taken heads ≡ slice_at lists t active)
  all-step t feeds taken [] [] [] follow at calm sliced whole = (tt, refl)
  all-step t feeds taken [] [] (f ∷ active) follow at calm sliced whole = absurd at
  all-step t feeds taken [] (b ∷ after) active follow at calm sliced whole = absurd sliced
  all-step t feeds taken (a ∷ heads) [] active follow at calm sliced whole = absurd sliced
  all-step t feeds taken (a ∷ heads) (b ∷ after) [] follow at calm sliced whole = absurd at
  all-step t feeds taken (a ∷ heads) (b ∷ after) (f ∷ active) follow (i, at) (quiet, calm) ((same, refilled), sliced) (kind, whole) =
      let n = f.feed in
      let feed : a.feed ≡ record { 0 = n } = ap (λ (k : ℕ). let x : FeedNo = record { 0 = k } in x) i.number in
      let here : taken a.feed.0 ≡ taken n = ap taken i.number in
      let now : taken_all feeds taken n ≡ Some (record { key = f.key; items = i.items ++ taken n }) = ap (option_map (more (taken n))) i.there in
      let first = one-step t i.items a.item (taken n) b.item (lists f.key) (are.list f.key) i.head (subst (λ xs. Refilled t a.item xs b.item) here refilled)
      (follow n (record { key = f.key; items = i.items ++ taken n }) now) quiet
      (elim kind [ inl h ↦ inl h | inr h ↦ inr (are.bars f.key h) ]) in
      let rest = all-step t feeds taken heads after active follow at calm sliced whole in (
        (
          record { number = ap (λ (x : FeedNo). x.0) same ∙ i.number; items = i.items ++ taken n; there = now; head = first.0; kind = i.kind },
          rest.0,
        ),
        ap (λ (x : FeedNo). map (arrival x) (given_of t a.item (taken a.feed.0)) ++ slice_of t taken heads) feed
            ∙ ap (λ xs. map (arrival (record { 0 = n })) xs ++ slice_of t taken heads) (ap (given_of t a.item) here ∙ first.1)
            ∙ ap (λ xs. map (arrival (record { 0 = n })) (filter (ends_at t) (lists f.key)) ++ xs) rest.1,
      )

  -- a slice is whole where the coarse feed's next item is no failed read
  whole-rest : (t : ℤ) (feeds : Feeds) (after : List Arrival) (heads : List Arrival) (taken : ℕ → List Item) (active : List Subscription) → AreAt coarse t feeds heads active → IsSliced t taken heads after
      → All (λ b. 0 < b.feed.0) after → AllZip IsWhole after active
  whole-rest t feeds [] [] taken [] at sliced past = tt
  whole-rest t feeds [] [] taken (f ∷ active) at sliced past = absurd at
  whole-rest t feeds [] (a ∷ heads) taken active at sliced past = absurd sliced
  whole-rest t feeds (b ∷ after) [] taken active at sliced past = absurd sliced
  whole-rest t feeds (b ∷ after) (a ∷ heads) taken [] at sliced past = absurd at
  whole-rest t feeds (b ∷ after) (a ∷ heads) taken (f ∷ active) (i, at) ((same, refilled), sliced) past =
      let number : b.feed.0 ≡ f.feed = ap (λ (x : FeedNo). x.0) same ∙ i.number in
      let low : 0 < b.feed.0 = All-head (λ x. 0 < x.feed.0) b after past in (
        elim i.kind [ inl h ↦ inr h | inr h ↦ (let zero = h.0 in absurd (omega (arith, low, number, zero))) ],
        whole-rest t feeds after heads taken active at sliced (All-tail (λ x. 0 < x.feed.0) b after past),
      )

  pub slice-whole : (t : ℤ) (feeds : Feeds) (taken : ℕ → List Item) (heads after : List Arrival) (active : List Subscription) → AreAt coarse t feeds heads active → IsSliced t taken heads after
      → AreRising after → broken coarse (find (λ (a : Arrival). stops a.item) after) ≡ false → AllZip IsWhole after active
  slice-whole t feeds taken [] [] [] at sliced rising sound = tt
  slice-whole t feeds taken [] [] (f ∷ active) at sliced rising sound = absurd at
  slice-whole t feeds taken [] (b ∷ after) active at sliced rising sound = absurd sliced
  slice-whole t feeds taken (a ∷ heads) [] active at sliced rising sound = absurd sliced
  slice-whole t feeds taken (a ∷ heads) (b ∷ after) [] at sliced rising sound = absurd at
  slice-whole t feeds taken (a ∷ heads) (b ∷ after) (f ∷ active) (i, at) ((same, refilled), sliced) (low, rising) sound =
      let number : b.feed.0 ≡ f.feed = ap (λ (x : FeedNo). x.0) same ∙ i.number in
      let kind : IsWhole b f = elim i.kind [
        | inl h ↦ inr h
        | inr h ↦ inl (λ is. refute is (number ∙ h.0) h.1)
      ] in
      (kind, whole-rest t feeds after heads taken active at sliced (All-weaker (λ x. b.feed.0 < x.feed.0) (λ x. 0 < x.feed.0) (λ x h. omega (arith, h)) after low))
    where
      refute : b.item ≡ Faulted → b.feed.0 ≡ 0 → coarse ≡ true → ⊥
      refute is zero has =
          let stop : stops b.item ≡ true = ap stops is in
          let found : find (λ (x : Arrival). stops x.item) (b ∷ after) ≡ Some b = rw stop refl in
          let bad : broken coarse (find (λ (x : Arrival). stops x.item) (b ∷ after)) ≡ true
          = ap (broken coarse) found ∙ ap (λ c. c && ((b.feed.0 == 0) && is_faulted b.item)) has ∙ ap (λ x. (x == 0) && is_faulted b.item) zero ∙ ap is_faulted is in
          true≢false (sym bad ∙ sound)

  -- up to the least end of the heads
  pub all-later : (t s : ℤ) (feeds : Feeds) (heads : List Arrival) (active : List Subscription) → t ≤ℤ s → AreAt coarse t feeds heads active
      → All (λ a. EndsFrom s (end_of a.item)) heads → AreAt coarse s feeds heads active
  all-later t s feeds [] [] h at from = tt
  all-later t s feeds [] (f ∷ active) h at from = absurd at
  all-later t s feeds (a ∷ heads) [] h at from = absurd at
  all-later t s feeds (a ∷ heads) (f ∷ active) h (i, at) from =
      let P : Arrival → Type 0 = λ b. EndsFrom s (end_of b.item) in (
        record { number = i.number; items = i.items; there = i.there; head = head-later t s i.items a.item h i.head (All-head P a heads from); kind = i.kind },
        all-later t s feeds heads active h at (All-tail P a heads from),
      )

  sound-of : (x : Item) → stops x ≡ false → x ≡ Faulted → ⊥
  sound-of x h is = true≢false (sym (ap stops is) ∙ h)

  pub all-quiet : (t u s : ℤ) (feeds : Feeds) (heads : List Arrival) (active : List Subscription) → AllFollow lists feeds → AreAt coarse t feeds heads active
      → All (λ a. stops a.item ≡ false) heads → All (λ a. EndsFrom s (end_of a.item)) heads → t ≤ℤ u → u <ℤ s → slice_at lists u active ≡ []
  all-quiet t u s feeds [] [] follow at sound from low high = refl
  all-quiet t u s feeds [] (f ∷ active) follow at sound from low high = absurd at
  all-quiet t u s feeds (a ∷ heads) [] follow at sound from low high = absurd at
  all-quiet t u s feeds (a ∷ heads) (f ∷ active) follow (i, at) sound from low high =
      let P : Arrival → Type 0 = λ b. EndsFrom s (end_of b.item) in
      let Q : Arrival → Type 0 = λ b. stops b.item ≡ false in
      let none = none-taken t u s i.items a.item (lists f.key) (are.list f.key) i.head (follow f.feed (record { key = f.key; items = i.items }) i.there)
      (sound-of a.item (All-head Q a heads sound)) low high (All-head P a heads from) in
      let rest = all-quiet t u s feeds heads active follow at (All-tail Q a heads sound) (All-tail P a heads from) low high in
      ap (λ xs. map (arrival (record { 0 = f.feed })) xs ++ slice_at lists u active) none ∙ rest

  pub calm-heads : (t u : ℤ) (feeds : Feeds) (heads : List Arrival) (active : List Subscription) → AreAt coarse t feeds heads active
      → All (λ a. stops a.item ≡ false) heads → AreCalm lists u heads active
  calm-heads t u feeds [] [] at sound = tt
  calm-heads t u feeds [] (f ∷ active) at sound = absurd at
  calm-heads t u feeds (a ∷ heads) [] at sound = absurd at
  calm-heads t u feeds (a ∷ heads) (f ∷ active) (i, at) sound =
      let Q : Arrival → Type 0 = λ b. stops b.item ≡ false in
      ((λ is. absurd (sound-of a.item (All-head Q a heads sound) is)), calm-heads t u feeds heads active at (All-tail Q a heads sound))

  -- ---- which malformed line is due

  ended : (t e : ℤ) → e <ℤ (t +ℤ pos 1) → int_le e t ≡ true
  ended t e h = grind (arith, ints)

  not-ended : (t e : ℤ) → (t +ℤ pos 1) ≤ℤ e → int_le e t ≡ false
  not-ended t e h = grind (arith, ints)

  due-past : (t : ℤ) (given rest : List Item) → All (λ x. EndsBefore (t +ℤ pos 1) (end_of x)) given → due t (given ++ rest) ≡ due t rest
  due-past t [] rest all = refl
  due-past t (Bar bar ∷ given) rest all =
      let B : Item → Type 0 = λ x. EndsBefore (t +ℤ pos 1) (end_of x) in
      rw (ended t bar.end.0 (All-head B (Bar bar) given all)) (due-past t given rest (All-tail B (Bar bar) given all))
  due-past t (Coarse at row ∷ given) rest all =
      let B : Item → Type 0 = λ x. EndsBefore (t +ℤ pos 1) (end_of x) in
      rw (ended t at.0 (All-head B (Coarse at row) given all)) (due-past t given rest (All-tail B (Coarse at row) given all))
  due-past t (Bad bad ∷ given) rest all = absurd (All-head (λ x. EndsBefore (t +ℤ pos 1) (end_of x)) (Bad bad) given all)
  due-past t (Faulted ∷ given) rest all = absurd (All-head (λ x. EndsBefore (t +ℤ pos 1) (end_of x)) Faulted given all)
  due-past t (End ∷ given) rest all = absurd (All-head (λ x. EndsBefore (t +ℤ pos 1) (end_of x)) End given all)

  abbrev bad-of : Item → Option BadLine
  bad-of (Bad bad) = Some bad
  bad-of (Bar bar) = None
  bad-of (Coarse at row) = None
  bad-of Faulted = None
  bad-of End = None

  due-head : (t : ℤ) (head : Item) (rest : List Item) → EndsFrom (t +ℤ pos 1) (end_of head) → due t (head ∷ rest) ≡ bad-of head
  due-head t (Bar bar) rest from = rw (not-ended t bar.end.0 from) refl
  due-head t (Coarse at row) rest from = rw (not-ended t at.0 from) refl
  due-head t (Bad bad) rest from = refl
  due-head t Faulted rest from = refl
  due-head t End rest from = refl

  due-is : (t : ℤ) (items : List Item) (head : Item) (list : List Item) → (s : AtHead (t +ℤ pos 1) items head) → Follows list items → (head ≡ Faulted → ⊥) → due t list ≡ bad-of head
  due-is t items head list s follows sound =
      let (rest, is) = stood (t +ℤ pos 1) items head list s follows sound in
      ap (due t) is ∙ due-past t s.given (head ∷ rest) s.before ∙ due-head t head rest s.from

  bad-none : (x : Item) → stops x ≡ false → bad-of x ≡ None
  bad-none (Bar bar) h = refl
  bad-none (Coarse at row) h = refl
  bad-none (Bad bad) h = absurd (true≢false h)
  bad-none Faulted h = refl
  bad-none End h = refl

  pub none-refused : (t : ℤ) (feeds : Feeds) (heads : List Arrival) (active : List Subscription) → AllFollow lists feeds → AreAt coarse (t +ℤ pos 1) feeds heads active
      → All (λ a. stops a.item ≡ false) heads → refused lists t active ≡ None
  none-refused t feeds [] [] follow at sound = refl
  none-refused t feeds [] (f ∷ active) follow at sound = absurd at
  none-refused t feeds (a ∷ heads) [] follow at sound = absurd at
  none-refused t feeds (a ∷ heads) (f ∷ active) follow (i, at) sound =
      let Q : Arrival → Type 0 = λ b. stops b.item ≡ false in
      let calm = All-head Q a heads sound in
      let none : due t (lists f.key) ≡ None
      = due-is t i.items a.item (lists f.key) i.head (follow f.feed (record { key = f.key; items = i.items }) i.there) (sound-of a.item calm) ∙ bad-none a.item calm in
      ap (λ (o : Option BadLine). option_or (option_map (λ bad. (let p : FeedKey × BadLine = (f.key, bad) in p)) o) (refused lists t active)) none
      ∙ none-refused t feeds heads active follow at (All-tail Q a heads sound)

  -- the first head that stops is a malformed line: it is the one that is due
  pub first-refused : (t : ℤ) (feeds : Feeds) (heads : List Arrival) (active : List Subscription) (a : Arrival) (bad : BadLine) → AllFollow lists feeds → AreAt coarse (t +ℤ pos 1) feeds heads active
      → find (λ (x : Arrival). stops x.item) heads ≡ Some a → a.item ≡ Bad bad
      → (taken : Taken) × (feeds a.feed.0 ≡ Some taken) × (refused lists t active ≡ Some (let p : FeedKey × BadLine = (taken.key, bad) in p)) × Contains (lists taken.key) (Bad bad)
  first-refused t feeds [] [] a bad follow at found is = absurd (none-some a found)
  first-refused t feeds [] (f ∷ active) a bad follow at found is = absurd at
  first-refused t feeds (h ∷ heads) [] a bad follow at found is = absurd at
  first-refused t feeds (h ∷ heads) (f ∷ active) a bad follow (i, at) found is = elim (cases_Bool (stops h.item)) [
    | inl stop ↦
        (let here : find (λ (x : Arrival). stops x.item) (h ∷ heads) ≡ Some h = rw stop refl in
        let same : h ≡ a = ap (λ (o : Option Arrival). unwrap_or o h) (sym here ∙ found) in
        let line : h.item ≡ Bad bad = ap (λ (x : Arrival). x.item) same ∙ is in
        let sound : h.item ≡ Faulted → ⊥ = λ e. true≢false (ap is_faulted (sym e ∙ line)) in
        let number : f.feed ≡ a.feed.0 = sym i.number ∙ ap (λ (x : Arrival). x.feed.0) same in
        let follows = follow f.feed (record { key = f.key; items = i.items }) i.there in
        let due_is : due t (lists f.key) ≡ Some bad
        = due-is t i.items h.item (lists f.key) i.head follows sound ∙ ap bad-of line in
        let (rest, list_is) = stood (t +ℤ pos 1) i.items h.item (lists f.key) i.head follows sound in (
          record { key = f.key; items = i.items },
          sym (ap feeds number) ∙ i.there,
          ap (λ (o : Option BadLine). option_or (option_map (λ bad. (let p : FeedKey × BadLine = (f.key, bad) in p)) o) (refused lists t active)) due_is,
          subst (λ xs. Contains xs (Bad bad)) (sym list_is) (subst (λ x. Contains (i.head.given ++ x ∷ rest) (Bad bad)) (sym line) (in-middle i.head.given (Bad bad) rest)),
        ))
    | inr other ↦
        (let later : find (λ (x : Arrival). stops x.item) (h ∷ heads) ≡ find (λ (x : Arrival). stops x.item) heads = rw other refl in
        let none : due t (lists f.key) ≡ None
        = due-is t i.items h.item (lists f.key) i.head (follow f.feed (record { key = f.key; items = i.items }) i.there) (sound-of h.item other) ∙ bad-none h.item other in
        let (taken, there, refused_is, has) = first-refused t feeds heads active a bad follow at (sym later ∙ found) is in
        (taken, there, ap (λ (o : Option BadLine). option_or (option_map (λ bad. (let p : FeedKey × BadLine = (f.key, bad) in p)) o) (refused lists t active)) none ∙ refused_is, has))
  ]
