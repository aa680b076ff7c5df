-- The heads in the lists of their feeds, from one moment to the next.
use Rattle.std.proofs.Common.{◌≡◌, ℕ, ◌+◌, ◌<◌, ◌≤◌, ◌⊎◌, Bool, true, false, ℤ, pos, ◌+ℤ◌, ◌≤ℤ◌, ◌<ℤ◌, List, [], ◌∷◌, ◌++◌, length, length-append, map, Option, Some, None, option_map, unwrap_or, refl, sym, ap, ◌∙◌, subst, inl, inr, arith, append_assoc, append-nil}
use Rattle.std.specs.Prelude.{int_lt}
use Rattle.std.specs.List.{All, Contains, filter, find}
use Rattle.std.specs.Ordering.{int_eq}
use Rattle.std.proofs.lemmas.Bool.{cases_Bool, true≢false, false≢true, and_parts}
use Rattle.std.proofs.lemmas.Bool.Decides.{Decides-int_eq}
use Rattle.std.proofs.lemmas.Int.{ints}
use Rattle.std.proofs.lemmas.Option.{none-some}
use Rattle.std.proofs.lemmas.List.Elements.{All-nil, All-cons, All-head, All-tail, All-append, All-weaker, All-filter, All-contains, All-contains_itself, Contains-append_left, Contains-append_right, Contains-push, filter-append, filter_passes}
use Rattle.lean_items.specs.declared.arrival.Arrival.{Arrival}
use Rattle.lean_items.specs.declared.feed_key.FeedKey.{FeedKey}
use Rattle.lean_items.specs.declared.feed_no.FeedNo.{FeedNo}
use Rattle.lean_items.specs.declared.item.Item.{Item}
use Rattle.lean_items.specs.declared.item.Item.TheVariants.{Bar, Coarse, Bad, Faulted, End}
use Rattle.lean_items.specs.Fits.{fits, end_or, Rises, is_bar_in_range}
use Rattle.lean_items.specs.Given.{is_last, end_of}
use Rattle.lean_items.specs.Taken.{Feeds, Follows, AllFollow, more}
use Rattle.frontier_sync.specs.Heads.{arrival, stops, EndsFrom, EndsAfter}
use Rattle.frontier_sync.specs.Slices.{ends_at, given_of, slice_of, Refilled, IsSliced, taken_all}
use Rattle.frontier_sync.specs.Rising.{EndsOnce, PassesNone}
use Rattle.frontier_sync.specs.Stands.{EndsBefore, AtHead, HeadsStand, IsTaken, IsSound, IsList, AreLists, is_coarse, AreBars, slice_at}
use Rattle.frontier_sync.proofs.PlaceLemmas.{kept-none}
use Rattle.frontier_sync.proofs.RisingLemmas.{none-passed, none-ends, rises-front, rises-behind, once-behind, after-none, rest-none}
use Rattle.frontier_sync.proofs.ListLemmas.{Stays, Breaks, last-same, follows-front, follows-head, once-fault, rises-fault}

-- a head that is no failed read stands in the list, behind what was given
pub stood : (t : ℤ) (items : List Item) (head : Item) (list : List Item) → (s : AtHead t items head) → Follows list items → (head ≡ Faulted → ⊥)
    → (rest : List Item) × (list ≡ s.given ++ head ∷ rest)
stood t items head list s follows sound =
    step (follows-head list s.given head [] sound (subst (λ xs. Follows list xs) (s.is ∙ sym (append-nil (s.given ++ head ∷ []))) follows))
  where
    step : Stays list s.given head [] ⊎ Breaks list s.given head [] → (rest : List Item) × (list ≡ s.given ++ head ∷ rest)
    step (inl h) = (h.rest, h.is)
    step (inr h) = (h.rows ++ h.rest, h.is)

before-none : (t : ℤ) (item : Item) → EndsBefore t (end_of item) → ends_at t item ≡ false
before-none t (Bar bar) h = apart t bar.end.0 h
  where
    apart : (t e : ℤ) → e <ℤ t → int_eq e t ≡ false
    apart t e less = elim (cases_Bool (int_eq e t)) [
      | inl same ↦ (let is : e ≡ t = (Decides-int_eq e t).0 same in absurd (omega (arith, ints)))
      | inr other ↦ other
    ]
before-none t (Coarse end row) h = apart t end.0 h
  where
    apart : (t e : ℤ) → e <ℤ t → int_eq e t ≡ false
    apart t e less = elim (cases_Bool (int_eq e t)) [
      | inl same ↦ (let is : e ≡ t = (Decides-int_eq e t).0 same in absurd (omega (arith, ints)))
      | inr other ↦ other
    ]
before-none t (Bad bad) h = absurd h
before-none t Faulted h = absurd h
before-none t End h = absurd h

before-later : (t s : ℤ) (item : Item) → t ≤ℤ s → EndsBefore t (end_of item) → EndsBefore s (end_of item)
before-later t s (Bar bar) h b = omega (arith, ints)
before-later t s (Coarse end row) h b = omega (arith, ints)
before-later t s (Bad bad) h b = b
before-later t s Faulted h b = b
before-later t s End h b = b

at-before : (t : ℤ) (item : Item) → ends_at t item ≡ true → EndsBefore (t +ℤ pos 1) (end_of item)
at-before t (Bar bar) h = let is : bar.end.0 ≡ t = (Decides-int_eq bar.end.0 t).0 h in omega (arith, ints)
at-before t (Coarse end row) h = let is : end.0 ≡ t = (Decides-int_eq end.0 t).0 h in omega (arith, ints)
at-before t (Bad bad) h = absurd (false≢true h)
at-before t Faulted h = absurd (false≢true h)
at-before t End h = absurd (false≢true h)

after-next : (t : ℤ) (item : Item) → EndsAfter t (end_of item) → EndsFrom (t +ℤ pos 1) (end_of item)
after-next t (Bar bar) h = omega (arith, ints)
after-next t (Coarse end row) h = omega (arith, ints)
after-next t (Bad bad) h = tt
after-next t Faulted h = tt
after-next t End h = tt

-- a head at one moment stands at a later one up to its end
pub head-later : (t s : ℤ) (items : List Item) (head : Item) → t ≤ℤ s → AtHead t items head → EndsFrom s (end_of head) → AtHead s items head
head-later t s items head h stands from = record {
  given = stands.given;
  is = stands.is;
  before = All-weaker (λ x. EndsBefore t (end_of x)) (λ x. EndsBefore s (end_of x)) (λ x b. before-later t s x h b) stands.given stands.before;
  from = from;
}

-- before the head of a feed nothing of its list ends
past-head : (u after : ℤ) (head : Item) (rest : List Item) → Rises after (head ∷ rest) → EndsOnce (head ∷ rest) → EndsAfter u (end_of head)
    → filter (ends_at u) (head ∷ rest) ≡ []
past-head u after head rest rises once later = rw (after-none u head later, rest-none u after head rest rises once later) refl

from-after : (u s : ℤ) (item : Item) → u <ℤ s → EndsFrom s (end_of item) → EndsAfter u (end_of item)
from-after u s (Bar bar) h f = omega (arith, ints)
from-after u s (Coarse end row) h f = omega (arith, ints)
from-after u s (Bad bad) h f = tt
from-after u s Faulted h f = tt
from-after u s End h f = tt

-- at a moment that all that was given ends before, and the head after, nothing of the list ends
pub none-taken : (t u s : ℤ) (items : List Item) (head : Item) (list : List Item) → IsList list → AtHead t items head → Follows list items → (head ≡ Faulted → ⊥)
    → t ≤ℤ u → u <ℤ s → EndsFrom s (end_of head) → filter (ends_at u) list ≡ []
none-taken t u s items head list l stands follows sound from less later =
    let (rest, is) = stood t items head list stands follows sound in
    let behind = rises-behind l.after stands.given (head ∷ rest) (subst (λ xs. Rises l.after xs) is l.rises) in
    let once = once-behind stands.given (head ∷ rest) (subst (λ xs. EndsOnce xs) is l.once) in
    let past = past-head u behind.0 head rest behind.1 once (from-after u s head less later) in
    ap (filter (ends_at u)) is ∙ filter-append (ends_at u) stands.given (head ∷ rest)
    ∙ rw (
      kept-none (ends_at u) stands.given (All-weaker (λ x. EndsBefore t (end_of x)) (λ x. ends_at u x ≡ false) (λ x b. before-none u x (before-later t u x from b)) stands.given stands.before),
      past,
    ) refl

-- of bars that rise from a moment none ends there
bars-none : (t : ℤ) (items : List Item) → Rises t items → AreBars items → filter (ends_at t) items ≡ []
bars-none t [] r bars = refl
bars-none t (Bar bar ∷ items) r bars =
    let less = (and_parts (int_lt t bar.end.0) (is_bar_in_range bar) r.0).0 in
    let past : t <ℤ bar.end.0 = grind (arith, ints) in
    rw (after-none t (Bar bar) past, none-ends t bar.end.0 items past r.1) refl
bars-none t (Coarse end row ∷ items) r bars = absurd (true≢false (All-head (λ x. is_coarse x ≡ false) (Coarse end row) items bars))
bars-none t (Bad bad ∷ items) r bars = bars-none t items r.1 (All-tail (λ x. is_coarse x ≡ false) (Bad bad) items bars)
bars-none t (Faulted ∷ items) r bars = bars-none t items r.1 (All-tail (λ x. is_coarse x ≡ false) Faulted items bars)
bars-none t (End ∷ items) r bars = bars-none t items r.1 (All-tail (λ x. is_coarse x ≡ false) End items bars)

ending-end : (t after : ℤ) (item : Item) → ends_at t item ≡ true → end_or after item ≡ t
ending-end t after (Bar bar) h = (Decides-int_eq bar.end.0 t).0 h
ending-end t after (Coarse end row) h = (Decides-int_eq end.0 t).0 h
ending-end t after (Bad bad) h = absurd (false≢true h)
ending-end t after Faulted h = absurd (false≢true h)
ending-end t after End h = absurd (false≢true h)

bars-front : (xs ys : List Item) → AreBars (xs ++ ys) → AreBars xs
bars-front [] ys bars = All-nil (λ x. is_coarse x ≡ false)
bars-front (x ∷ xs) ys bars =
    All-cons (λ x. is_coarse x ≡ false) x xs (All-head (λ x. is_coarse x ≡ false) x (xs ++ ys) bars) (bars-front xs ys (All-tail (λ x. is_coarse x ≡ false) x (xs ++ ys) bars))

bars-behind : (xs ys : List Item) → AreBars (xs ++ ys) → AreBars ys
bars-behind [] ys bars = bars
bars-behind (x ∷ xs) ys bars = bars-behind xs ys (All-tail (λ x. is_coarse x ≡ false) x (xs ++ ys) bars)

given-none : (t : ℤ) (given : List Item) → All (λ x. EndsBefore t (end_of x)) given → filter (ends_at t) given ≡ []
given-none t given before = kept-none (ends_at t) given (All-weaker (λ x. EndsBefore t (end_of x)) (λ x. ends_at t x ≡ false) (λ x b. before-none t x b) given before)

-- where nothing is passed over, the next head stands at the next moment
step-head : (t : ℤ) (items : List Item) (head : Item) (taken rest : List Item) (next : Item) → AtHead t items head → PassesNone t head taken rest next
    → EndsAfter t (end_of next) → AtHead (t +ℤ pos 1) (items ++ taken) next
step-head t items head taken rest next s p later =
    let gives = given_of t head taken in
    record {
      given = s.given ++ gives;
      is = ap (λ xs. xs ++ taken) s.is ∙ append_assoc s.given (head ∷ []) taken ∙ ap (λ xs. s.given ++ xs) p.all ∙ sym (append_assoc s.given gives (next ∷ []));
      before = All-append (λ x. EndsBefore (t +ℤ pos 1) (end_of x)) s.given gives
          (All-weaker (λ x. EndsBefore t (end_of x)) (λ x. EndsBefore (t +ℤ pos 1) (end_of x)) (λ x b. before-later t (t +ℤ pos 1) x (omega (arith, ints)) b) s.given s.before)
          (All-weaker (λ x. ends_at t x ≡ true) (λ x. EndsBefore (t +ℤ pos 1) (end_of x)) (λ x e. at-before t x e) gives (filter_passes (ends_at t) (head ∷ filter (fits t) taken)));
      from = after-next t next later;
    }

-- One feed from a moment to the next: what was given of it is what ends there in its list. After a failed read this is known of
-- a list of bars.
pub feed-step : (t : ℤ) (items : List Item) (head : Item) (taken : List Item) (next : Item) (list : List Item) → IsList list → AtHead t items head
    → Refilled t head taken next → Follows list (items ++ taken) → (head ≡ Faulted → ⊥) → (next ≡ Faulted → ⊥) ⊎ AreBars list
    → AtHead (t +ℤ pos 1) (items ++ taken) next × (given_of t head taken ≡ filter (ends_at t) list)
feed-step t items head taken next list l s f follows sound whole =
    step (follows-head list s.given head taken sound (subst (λ xs. Follows list (xs ++ taken)) s.is follows))
  where
    part : (rest : List Item) → list ≡ s.given ++ rest → (late : ℤ) × Rises late rest × EndsOnce rest
    part rest is =
        let behind = rises-behind l.after s.given rest (subst (λ xs. Rises l.after xs) is l.rises) in
        (behind.0, behind.1, once-behind s.given rest (subst (λ xs. EndsOnce xs) is l.once))

    ends : (rest : List Item) → list ≡ s.given ++ rest → filter (ends_at t) list ≡ filter (ends_at t) rest
    ends rest is = ap (filter (ends_at t)) is ∙ filter-append (ends_at t) s.given rest ∙ ap (λ xs. xs ++ filter (ends_at t) rest) (given-none t s.given s.before)

    broken : (h : Breaks list s.given head taken) → AreBars list → PassesNone t head taken [] next → given_of t head taken ≡ filter (ends_at t) list
    broken h bars p = elim (cases_Bool (ends_at t head)) [
      | inl here ↦
          (let (late, rises, once) = part (head ∷ h.rows ++ h.rest) h.is in
          let from_t : Rises t (h.rows ++ h.rest) = subst (λ z. Rises z (h.rows ++ h.rest)) (ending-end t late head here) rises.1 in
          let behind : AreBars (h.rows ++ h.rest) = All-tail (λ x. is_coarse x ≡ false) head (h.rows ++ h.rest) (bars-behind s.given (head ∷ h.rows ++ h.rest) (subst (λ xs. AreBars xs) h.is bars)) in
          let front = bars-none t h.rows (rises-front t h.rows h.rest from_t) (bars-front h.rows h.rest behind) in
          let none = bars-none t (h.rows ++ h.rest) from_t behind in
          let nothing : filter (ends_at t) (taken ++ []) ≡ [] =
          ap (filter (ends_at t)) (append-nil taken ∙ h.taken_is) ∙ filter-append (ends_at t) h.rows (Faulted ∷ []) ∙ ap (λ xs. xs ++ []) front in
          p.whole ∙ rw (here, nothing) (sym (ends (head ∷ h.rows ++ h.rest) h.is ∙ rw (here, none) refl)))
      | inr other ↦ absurd (no-end h.rows (sym (f.idle other) ∙ h.taken_is))
    ]
      where
        no-end : (rows : List Item) → [] ≡ rows ++ Faulted ∷ [] → ⊥
        no-end rows e = (let n : 0 ≡ length (rows ++ Faulted ∷ []) = ap length e in absurd (omega (arith, length-append rows (Faulted ∷ []))))

    step : Stays list s.given head taken ⊎ Breaks list s.given head taken → AtHead (t +ℤ pos 1) (items ++ taken) next × (given_of t head taken ≡ filter (ends_at t) list)
    step (inl h) =
        let (late, rises, once) = part (head ∷ taken ++ h.rest) h.is in
        let p = none-passed t head taken h.rest next (record { after = late; rises = rises; once = once; from = s.from }) f in
        (step-head t items head taken h.rest next s p (f.later s.from), p.whole ∙ sym (ends (head ∷ taken ++ h.rest) h.is))
    step (inr h) =
        let (late, rises, once) = part (head ∷ h.rows ++ h.rest) h.is in
        let list_is : (head ∷ h.rows) ++ Faulted ∷ [] ≡ head ∷ taken ++ [] = ap (λ xs. head ∷ xs) (sym h.taken_is ∙ sym (append-nil taken)) in
        let p = none-passed t head taken [] next (record {
          after = late;
          rises = subst (λ xs. Rises late xs) list_is (rises-fault late (head ∷ h.rows) (rises-front late (head ∷ h.rows) h.rest rises));
          once = subst (λ xs. EndsOnce xs) list_is (once-fault (head ∷ h.rows) h.all);
          from = s.from;
        }) f in
        let last = last-same (head ∷ h.rows) (given_of t head taken) Faulted next (ap (λ xs. head ∷ xs) (sym h.taken_is) ∙ p.all) in (
          step-head t items head taken [] next s p (f.later s.from),
          elim whole [ inl none ↦ absurd (none (sym last.1)) | inr bars ↦ broken h bars p ],
        )

-- the head that is found, and that none is found
pub head-found : (P : Arrival → Type 0) (p : Arrival → Bool) (heads : List Arrival) (a : Arrival) → All P heads → find p heads ≡ Some a → P a × (p a ≡ true)
head-found P p [] a all e = absurd (none-some a e)
head-found P p (h ∷ heads) a all e = elim (cases_Bool (p h)) [
  | inl stop ↦
      (let found : find p (h ∷ heads) ≡ Some h = rw stop refl in
      let same : h ≡ a = ap (λ (o : Option Arrival). unwrap_or o h) (sym found ∙ e) in
      (subst P same (All-head P h heads all), ap p (sym same) ∙ stop))
  | inr other ↦
      (let later : find p (h ∷ heads) ≡ find p heads = rw other refl in
      head-found P p heads a (All-tail P h heads all) (sym later ∙ e))
]

pub none-found : (p : Arrival → Bool) (heads : List Arrival) → find p heads ≡ None → All (λ a. p a ≡ false) heads
none-found p [] e = All-nil (λ a. p a ≡ false)
none-found p (h ∷ heads) e = elim (cases_Bool (p h)) [
  | inl stop ↦ (let found : find p (h ∷ heads) ≡ Some h = rw stop refl in absurd (none-some h (sym e ∙ found)))
  | inr other ↦
      (let later : find p (h ∷ heads) ≡ find p heads = rw other refl in
      All-cons (λ a. p a ≡ false) h heads other (none-found p heads (sym later ∙ e)))
]

-- no head is a failed read where none stops the merge
pub sound-heads : (heads : List Arrival) → All (λ a. stops a.item ≡ false) heads → All IsSound heads
sound-heads heads all = All-weaker (λ a. stops a.item ≡ false) IsSound (λ a h is. true≢false (sym (ap stops is) ∙ h)) heads all

-- behind a last item nothing stands
pub stood-last : (t : ℤ) (items : List Item) (head : Item) (list : List Item) → IsList list → (s : AtHead t items head) → Follows list items → (head ≡ Faulted → ⊥)
    → is_last head ≡ true → list ≡ s.given ++ head ∷ []
stood-last t items head list l s follows sound last =
    let (rest, is) = stood t items head list s follows sound in
    let once = once-behind s.given (head ∷ rest) (subst (λ xs. EndsOnce xs) is l.once) in
    is ∙ ap (λ xs. s.given ++ head ∷ xs) (once.0 last)

-- each head is among what was taken of its feed
pub head-taken-still : (at : ℤ) (items : List Item) (head : Item) (taken : List Item) (next : Item) → Contains items head → Refilled at head taken next
    → Contains (items ++ taken) next
head-taken-still at items head taken next has f =
    let C : Item → Type 0 = Contains (items ++ taken) in
    let all : All C (head ∷ filter (fits at) taken) =
    All-cons C head (filter (fits at) taken) (Contains-append_left items taken head has)
    (All-filter (fits at) C taken (All-weaker (Contains taken) C (λ x h. Contains-append_right items taken x h) taken (All-contains_itself taken))) in
    All-contains C (given_of at head taken ++ next ∷ []) next (subst (λ xs. All C xs) f.kept all) (Contains-push (given_of at head taken) next)

pub all-taken : (at : ℤ) (feeds : Feeds) (taken : ℕ → List Item) (heads after : List Arrival) → All (IsTaken feeds) heads → IsSliced at taken heads after
    → All (IsTaken (taken_all feeds taken)) after
all-taken at feeds taken [] [] all sliced = All-nil (IsTaken (taken_all feeds taken))
all-taken at feeds taken [] (b ∷ after) all sliced = absurd sliced
all-taken at feeds taken (a ∷ heads) [] all sliced = absurd sliced
all-taken at feeds taken (a ∷ heads) (b ∷ after) all ((same, refilled), sliced) =
    let (t, is, has) = All-head (IsTaken feeds) a heads all in
    let number : b.feed.0 ≡ a.feed.0 = ap (λ (f : FeedNo). f.0) same in
    let now : taken_all feeds taken b.feed.0 ≡ Some (more (taken a.feed.0) t) =
    ap (taken_all feeds taken) number ∙ ap (option_map (more (taken a.feed.0))) is in
    All-cons (IsTaken (taken_all feeds taken)) b after
    (more (taken a.feed.0) t, now, head-taken-still at t.items a.item (taken a.feed.0) b.item has refilled)
    (all-taken at feeds taken heads after (All-tail (IsTaken feeds) a heads all) sliced)

-- what was taken before follows the lists too
pub all-front : (lists : FeedKey → List Item) (feeds : Feeds) (taken : ℕ → List Item) → AllFollow lists (taken_all feeds taken) → AllFollow lists feeds
all-front lists feeds taken follow n t at =
    follows-front (lists t.key) t.items (taken n) (follow n (record { key = t.key; items = t.items ++ taken n }) (ap (option_map (more (taken n))) at))

-- All feeds from a moment to the next: the slice is what ends there in the lists.
pub all-step : (lists : FeedKey → List Item) (t : ℤ) (n : ℕ) (feeds : Feeds) (taken : ℕ → List Item) (heads after : List Arrival) (keys : List FeedKey)
    → AreLists lists keys → AllFollow lists (taken_all feeds taken) → HeadsStand t feeds n heads keys → IsSliced t taken heads after
    → All IsSound heads → All IsSound after ⊎ All (λ key. AreBars (lists key)) keys
    → HeadsStand (t +ℤ pos 1) (taken_all feeds taken) n after keys × (slice_of t taken heads ≡ slice_at lists t n keys)
all-step lists t n feeds taken [] [] [] are follow stand sliced sound whole = (tt, refl)
all-step lists t n feeds taken [] [] (key ∷ keys) are follow stand sliced sound whole = absurd stand
all-step lists t n feeds taken [] (b ∷ after) keys are follow stand sliced sound whole = absurd sliced
all-step lists t n feeds taken (a ∷ heads) [] keys are follow stand sliced sound whole = absurd sliced
all-step lists t n feeds taken (a ∷ heads) (b ∷ after) [] are follow stand sliced sound whole = absurd stand
all-step lists t n feeds taken (a ∷ heads) (b ∷ after) (key ∷ keys) are follow (number, (items, at, head), stand) ((same, refilled), sliced) sound whole =
    let P : FeedKey → Type 0 = λ k. IsList (lists k) in
    let B : FeedKey → Type 0 = λ k. AreBars (lists k) in
    let feed : a.feed ≡ record { 0 = n } = ap (λ (k : ℕ). let f : FeedNo = record { 0 = k } in f) number in
    let here : taken a.feed.0 ≡ taken n = ap taken number in
    let now : taken_all feeds taken n ≡ Some (record { key = key; items = items ++ taken n }) = ap (option_map (more (taken n))) at in
    let first = feed-step t items a.item (taken n) b.item (lists key) (All-head P key keys are) head (subst (λ xs. Refilled t a.item xs b.item) here refilled)
    (follow n (record { key = key; items = items ++ taken n }) now) (All-head IsSound a heads sound)
    (elim whole [ inl h ↦ inl (All-head IsSound b after h) | inr h ↦ inr (All-head B key keys h) ]) in
    let rest = all-step lists t (n + 1) feeds taken heads after keys (All-tail P key keys are) follow stand sliced (All-tail IsSound a heads sound)
    (elim whole [ inl h ↦ inl (All-tail IsSound b after h) | inr h ↦ inr (All-tail B key keys h) ]) in (
      (ap (λ (f : FeedNo). f.0) same ∙ number, (items ++ taken n, now, first.0), rest.0),
      ap (λ (f : FeedNo). map (arrival f) (given_of t a.item (taken a.feed.0)) ++ slice_of t taken heads) feed
          ∙ ap (λ xs. map (arrival (record { 0 = n })) xs ++ slice_of t taken heads) (ap (given_of t a.item) here ∙ first.1)
          ∙ ap (λ xs. map (arrival (record { 0 = n })) (filter (ends_at t) (lists key)) ++ xs) rest.1,
    )

-- moments up to the least end of the heads: nothing ends there, and the heads stand at it
pub all-later : (t s : ℤ) (n : ℕ) (feeds : Feeds) (heads : List Arrival) (keys : List FeedKey) → t ≤ℤ s → HeadsStand t feeds n heads keys
    → All (λ a. EndsFrom s (end_of a.item)) heads → HeadsStand s feeds n heads keys
all-later t s n feeds [] [] h stand from = tt
all-later t s n feeds [] (key ∷ keys) h stand from = absurd stand
all-later t s n feeds (a ∷ heads) [] h stand from = absurd stand
all-later t s n feeds (a ∷ heads) (key ∷ keys) h (number, (items, at, head), stand) from =
    let P : Arrival → Type 0 = λ b. EndsFrom s (end_of b.item) in
    (number, (items, at, head-later t s items a.item h head (All-head P a heads from)), all-later t s (n + 1) feeds heads keys h stand (All-tail P a heads from))

pub all-quiet : (lists : FeedKey → List Item) (t u s : ℤ) (n : ℕ) (feeds : Feeds) (heads : List Arrival) (keys : List FeedKey) → AreLists lists keys
    → AllFollow lists feeds → HeadsStand t feeds n heads keys → All IsSound heads → All (λ a. EndsFrom s (end_of a.item)) heads → t ≤ℤ u → u <ℤ s
    → slice_at lists u n keys ≡ []
all-quiet lists t u s n feeds [] [] are follow stand sound from low high = refl
all-quiet lists t u s n feeds [] (key ∷ keys) are follow stand sound from low high = absurd stand
all-quiet lists t u s n feeds (a ∷ heads) [] are follow stand sound from low high = absurd stand
all-quiet lists t u s n feeds (a ∷ heads) (key ∷ keys) are follow (number, (items, at, head), stand) sound from low high =
    let L : FeedKey → Type 0 = λ k. IsList (lists k) in
    let P : Arrival → Type 0 = λ b. EndsFrom s (end_of b.item) in
    let none = none-taken t u s items a.item (lists key) (All-head L key keys are) head (follow n (record { key = key; items = items }) at)
    (All-head IsSound a heads sound) low high (All-head P a heads from) in
    let rest = all-quiet lists t u s (n + 1) feeds heads keys (All-tail L key keys are) follow stand (All-tail IsSound a heads sound) (All-tail P a heads from) low high in
    ap (λ xs. map (arrival (record { 0 = n })) xs ++ slice_at lists u (n + 1) keys) none ∙ rest

-- the first head of a feed
pub head-first : (t : ℤ) (head : Item) → EndsFrom t (end_of head) → AtHead t (head ∷ []) head
head-first t head from = record { given = []; is = refl; before = All-nil (λ x. EndsBefore t (end_of x)); from = from }

-- one feed more, behind the others
pub stand-more : (t : ℤ) (n : ℕ) (feeds : Feeds) (heads : List Arrival) (keys : List FeedKey) (a : Arrival) (key : FeedKey) (items : List Item)
    → HeadsStand t feeds n heads keys → a.feed.0 ≡ n + length keys → feeds (n + length keys) ≡ Some (record { key = key; items = items }) → AtHead t items a.item
    → HeadsStand t feeds n (heads ++ a ∷ []) (keys ++ key ∷ [])
stand-more t n feeds [] [] a key items stand number at head =
    let here : n + 0 ≡ n = omega arith in
    (number ∙ here, (items, ap feeds (sym here) ∙ at, head), tt)
stand-more t n feeds [] (k ∷ keys) a key items stand number at head = absurd stand
stand-more t n feeds (b ∷ heads) [] a key items stand number at head = absurd stand
stand-more t n feeds (b ∷ heads) (k ∷ keys) a key items (first, second, stand) number at head =
    let next : n + length (k ∷ keys) ≡ n + 1 + length keys = omega arith in
    (first, second, stand-more t (n + 1) feeds heads keys a key items stand (number ∙ next) (ap feeds (sym next) ∙ at) head)

-- the heads stand where the same was taken of their feeds
pub stand-same : (t : ℤ) (n : ℕ) (feeds others : Feeds) (heads : List Arrival) (keys : List FeedKey) → HeadsStand t feeds n heads keys
    → ((m : ℕ) → n ≤ m → m < n + length keys → others m ≡ feeds m) → HeadsStand t others n heads keys
stand-same t n feeds others [] [] stand same = tt
stand-same t n feeds others [] (key ∷ keys) stand same = absurd stand
stand-same t n feeds others (a ∷ heads) [] stand same = absurd stand
stand-same t n feeds others (a ∷ heads) (key ∷ keys) (number, (items, at, head), stand) same =
    (number, (items, same n (omega arith) (omega arith) ∙ at, head), stand-same t (n + 1) feeds others heads keys stand (λ m low high. same m (omega arith) (omega arith)))
