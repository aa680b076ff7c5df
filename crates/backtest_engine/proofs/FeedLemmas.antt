-- Feeds that are added and removed, one after another.
use Rattle.std.proofs.Common.{◌≡◌, ◌≢◌, ℕ, zero, suc, ◌+◌, ◌<◌, Bool, true, false, cond, eqb, ℤ, pos, ◌+ℤ◌, ◌≤ℤ◌, List, [], ◌∷◌, ◌++◌, length, Option, Some, None, option_map, refl, sym, ap, ◌∙◌, subst, inl, inr, arith, append_assoc, append-nil, drop, get_or}
use Rattle.std.specs.Prelude.{not, nat_lt, slice_get, Ok}
use Rattle.std.specs.List.{All}
use Rattle.std.proofs.lemmas.Bool.{cases_Bool, true≢false}
use Rattle.std.proofs.lemmas.Bool.Decides.{eqb_tells}
use Rattle.std.proofs.Math.Seq.{drop-cons}
use Rattle.std.proofs.lemmas.Int.{ints}
use Rattle.std.proofs.lemmas.Option.{none-some, slice_get_past}
use Rattle.std.proofs.lemmas.List.Elements.{All-nil, All-cons, All-head, All-tail, All-weaker, All-append, All-filter, Contains-push}
use Rattle.lean_items.specs.declared.arrival.Arrival.{Arrival}
use Rattle.lean_items.specs.declared.feed_key.FeedKey.{FeedKey}
use Rattle.lean_items.specs.declared.feed_no.FeedNo.{FeedNo}
use Rattle.lean_items.specs.declared.item.Item.{Item}
use Rattle.lean_items.specs.declared.item.Item.TheVariants.{Faulted}
use Rattle.lean_items.specs.Given.{end_of, is_last, IsRow}
use Rattle.lean_items.specs.Taken.{Start, Feeds, Taken, Follows, added_to, more}
use Rattle.frontier_sync.specs.Heads.{arrival, put, without, fits_first, EndsFrom, AreOpen}
use Rattle.frontier_sync.specs.Slices.{taken_one, TakesOfOne}
use Rattle.frontier_sync.specs.Stands.{AtHead, IsTaken}
use Rattle.frontier_sync.proofs.FirstLemmas.{past-from}
use Rattle.frontier_sync.proofs.PlaceLemmas.{kept-all, kept-none}
use Rattle.frontier_sync.proofs.StandLemmas.{head-first}
use Rattle.backtest_engine.specs.Meaning.{Subscription}
use Rattle.backtest_engine.specs.Turns.{subscription, numbered, without_one, without_all}
use Rattle.backtest_engine.specs.Stands.{IsAt, AreAt, IsEarlier, Stock, MayStart}
use Rattle.backtest_engine.specs.Opened.{AreNumbered, without_heads, Opened}

-- ---- heads with rising numbers

below : (n : ℕ) (a : Arrival) → a.feed.0 < n → nat_lt a.feed.0 n ≡ true
below n a h = grind arith

not-above : (n : ℕ) (a : Arrival) → a.feed.0 < n → nat_lt n a.feed.0 ≡ false
not-above n a h = grind arith

-- the head of a feed past all others stands behind them
pub put-last : (head : Arrival) (heads : List Arrival) → AreNumbered head.feed.0 heads → put head heads ≡ heads ++ head ∷ []
put-last head heads all =
    let n = head.feed.0 in
    let front = kept-all (λ (b : Arrival). nat_lt b.feed.0 n) heads (All-weaker (λ (b : Arrival). b.feed.0 < n) (λ (b : Arrival). nat_lt b.feed.0 n ≡ true) (λ b h. below n b h) heads all) in
    let back = kept-none (λ (b : Arrival). nat_lt n b.feed.0) heads (All-weaker (λ (b : Arrival). b.feed.0 < n) (λ (b : Arrival). nat_lt n b.feed.0 ≡ false) (λ b h. not-above n b h) heads all) in
    rw (front, back) refl

pub numbered-more : (n : ℕ) (head : Arrival) (heads : List Arrival) → head.feed.0 ≡ n → AreNumbered n heads → AreNumbered (n + 1) (heads ++ head ∷ [])
numbered-more n head heads is all =
    All-append (λ a. a.feed.0 < n + 1) heads (head ∷ [])
    (All-weaker (λ a. a.feed.0 < n) (λ a. a.feed.0 < n + 1) (λ a h. omega (arith, h)) heads all)
    (All-cons (λ a. a.feed.0 < n + 1) head [] (omega (arith, is)) (All-nil (λ a. a.feed.0 < n + 1)))

eqb-same : (n : ℕ) → eqb n n ≡ true
eqb-same n = elim (eqb_tells n n) [ inl h ↦ h.0 | inr h ↦ absurd (h.1 refl) ]

eqb-other : (n k : ℕ) → n ≢ k → eqb n k ≡ false
eqb-other n k d = elim (eqb_tells n k) [ inl h ↦ absurd (d h.1) | inr h ↦ h.0 ]

-- the feeds of all heads are open, once a feed more was opened
pub open-more : (before added now : ℕ → Bool) (feed : FeedNo) (item : Item) (heads : List Arrival) → AreNumbered feed.0 heads → AreOpen before heads
    → ((n : ℕ) → added n ≡ cond (eqb n feed.0) true (before n)) → ((n : ℕ) → now n ≡ cond (eqb n feed.0) (not (is_last item)) (added n))
    → AreOpen now (heads ++ arrival feed item ∷ [])
open-more before added now feed item heads numbered are_open adds takes =
    All-append (λ a. IsRow a.item → now a.feed.0 ≡ true) heads (arrival feed item ∷ []) (old heads numbered are_open)
    (All-cons (λ a. IsRow a.item → now a.feed.0 ≡ true) (arrival feed item) [] (λ row. takes feed.0 ∙ here row) (All-nil (λ a. IsRow a.item → now a.feed.0 ≡ true)))
  where
    here : IsRow item → cond (eqb feed.0 feed.0) (not (is_last item)) (added feed.0) ≡ true
    here row = rw (eqb-same feed.0, row) refl

    there : (n : ℕ) → n < feed.0 → before n ≡ true → now n ≡ true
    there n lt h =
        let other = eqb-other n feed.0 (λ e. absurd (omega (arith, lt, e))) in
        takes n ∙ ap (λ b. cond b (not (is_last item)) (added n)) other ∙ adds n ∙ ap (λ b. cond b true (before n)) other ∙ h

    old : (hs : List Arrival) → AreNumbered feed.0 hs → AreOpen before hs → AreOpen now hs
    old [] few all = All-nil (λ a. IsRow a.item → now a.feed.0 ≡ true)
    old (a ∷ hs) few all =
        All-cons (λ x. IsRow x.item → now x.feed.0 ≡ true) a hs
        (λ row. there a.feed.0 (All-head (λ x. x.feed.0 < feed.0) a hs few) (All-head (λ x. IsRow x.item → before x.feed.0 ≡ true) a hs all row))
        (old hs (All-tail (λ x. x.feed.0 < feed.0) a hs few) (All-tail (λ x. IsRow x.item → before x.feed.0 ≡ true) a hs all))

-- the feeds of the heads that stay are open, once a feed was removed
pub open-without : (before now : ℕ → Bool) (feed : ℕ) (heads : List Arrival) → AreOpen before heads → ((n : ℕ) → now n ≡ cond (eqb n feed) false (before n)) → AreOpen now (without feed heads)
open-without before now feed [] all removes = All-nil (λ a. IsRow a.item → now a.feed.0 ≡ true)
open-without before now feed (a ∷ heads) all removes =
    let P : Arrival → Type 0 = λ x. IsRow x.item → now x.feed.0 ≡ true in
    let B : Arrival → Type 0 = λ x. IsRow x.item → before x.feed.0 ≡ true in
    let rest = open-without before now feed heads (All-tail B a heads all) removes in
    elim (cases_Bool (eqb a.feed.0 feed)) [
      | inl same ↦ rw same rest
      | inr other ↦
          rw other (All-cons P a (without feed heads)
          (λ row. removes a.feed.0 ∙ ap (λ b. cond b false (before a.feed.0)) other ∙ All-head B a heads all row) rest)
    ]

-- ---- the maps of what was taken

-- what is there stays as it is
abbrev pub Extends : Feeds → Feeds → Type 0
Extends feeds now = (n : ℕ) (taken : Taken) → feeds n ≡ Some taken → now n ≡ Some taken

pub extends-earlier : (feeds now : Feeds) → Extends feeds now → IsEarlier feeds now
extends-earlier feeds now e = (
  (λ lists follow n taken at. follow n taken (e n taken at)),
  λ n taken at. ([], e n taken at ∙ ap (λ xs. let o : Option Taken = Some (record { key = taken.key; items = xs }) in o) (sym (append-nil taken.items))),
)

pub taken-same : (feeds now : Feeds) (heads : List Arrival) → Extends feeds now → All (IsTaken feeds) heads → All (IsTaken now) heads
taken-same feeds now heads e all = All-weaker (IsTaken feeds) (IsTaken now) (λ a h. (h.0, e a.feed.0 h.0 h.1, h.2)) heads all

new-at : (b : Bool) (old : Option Taken) (key : FeedKey) (items : List Item) → b ≡ true
    → cond b (option_map (more items) (cond b (Some (record { key = key; items = [] })) old)) (cond b (Some (record { key = key; items = [] })) old)
    ≡ Some (record { key = key; items = items })
new-at true old key items h = refl
new-at false old key items h = absurd (true≢false (sym h))

other-at : (b : Bool) (old : Option Taken) (key : FeedKey) (items : List Item) → b ≡ false
    → cond b (option_map (more items) (cond b (Some (record { key = key; items = [] })) old)) (cond b (Some (record { key = key; items = [] })) old) ≡ old
other-at true old key items h = absurd (true≢false h)
other-at false old key items h = refl

-- a feed was added, and its first items were taken
abbrev pub opened : Feeds → FeedKey → FeedNo → List Item → Feeds
opened feeds key feed items = taken_one (added_to feeds key (Ok feed)) feed.0 items

opened-at : (feeds : Feeds) (key : FeedKey) (feed : FeedNo) (items : List Item) → opened feeds key feed items feed.0 ≡ Some (record { key = key; items = items })
opened-at feeds key feed items = new-at (eqb feed.0 feed.0) (feeds feed.0) key items (eqb-same feed.0)

opened-other : (feeds : Feeds) (key : FeedKey) (feed : FeedNo) (items : List Item) (n : ℕ) → n ≢ feed.0 → opened feeds key feed items n ≡ feeds n
opened-other feeds key feed items n other = other-at (eqb n feed.0) (feeds n) key items (eqb-other n feed.0 other)

pub extends-opened : (feeds : Feeds) (key : FeedKey) (feed : FeedNo) (items : List Item) → feeds feed.0 ≡ None → Extends feeds (opened feeds key feed items)
extends-opened feeds key feed items none n taken at =
    opened-other feeds key feed items n (λ e. absurd (none-some taken (sym none ∙ sym (ap feeds e) ∙ at))) ∙ at

-- ---- nothing is passed over before the first head

all-first : (start : ℤ) (list : List Item) (p : Item) (rest : List Item) → All (λ x. fits_first start x ≡ true) list → list ≡ p ∷ rest → fits_first start p ≡ true
all-first start list p rest all e = All-head (λ x. fits_first start x ≡ true) p rest (subst (λ xs. All (λ x. fits_first start x ≡ true) xs) e all)

abbrev head-or : Item → List Item → Item
head-or d [] = d
head-or d (x ∷ xs) = x

first-taken : (start : ℤ) (list : List Item) (p : Item) (ps : List Item) → All (λ x. fits_first start x ≡ true) list → Follows list (p ∷ ps) → fits_first start p ≡ true
first-taken start list p ps all (inl h) = all-first start list p (ps ++ h.0) all h.1
first-taken start list p ps all (inr h) = by h.0 h.2 h.3
  where
    by : (rows : List Item) → (let l : List Item = p ∷ ps in l) ≡ rows ++ Faulted ∷ [] → list ≡ rows ++ h.1 → fits_first start p ≡ true
    by [] taken is = ap (fits_first start) (ap (head-or p) taken)
    by (r ∷ rows) taken is =
        let same : p ≡ r = ap (head-or p) taken in
        ap (fits_first start) same ∙ all-first start list r (rows ++ h.1) all is

none-passed : (start : ℤ) (list passed : List Item) (item : Item) → All (λ x. fits_first start x ≡ true) list → Follows list (passed ++ item ∷ [])
    → All (λ x. fits_first start x ≡ false) passed → passed ≡ []
none-passed start list [] item all follows none = refl
none-passed start list (p ∷ ps) item all follows none =
    absurd (true≢false (sym (first-taken start list p (ps ++ item ∷ []) all follows) ∙ All-head (λ x. fits_first start x ≡ false) p ps none))

pub drop-next : {X : Type 0} (l : List X) (j : ℕ) (d : X) → j < length l → drop j l ≡ get_or l j d ∷ drop (j + 1) l
drop-next l j d h =
    let e : suc j ≡ j + 1 = omega arith in
    drop-cons l j d h ∙ ap (λ k. get_or l j d ∷ drop k l) e

-- ---- heads and active feeds

module _ (coarse : Bool) (t : ℤ) where
  pub at-same : (feeds now : Feeds) (heads : List Arrival) (active : List Subscription) → Extends feeds now → AreAt coarse t feeds heads active → AreAt coarse t now heads active
  at-same feeds now [] [] e at = tt
  at-same feeds now [] (f ∷ active) e at = absurd at
  at-same feeds now (a ∷ heads) [] e at = absurd at
  at-same feeds now (a ∷ heads) (f ∷ active) e (i, at) = (
    record { number = i.number; items = i.items; there = e f.feed (record { key = f.key; items = i.items }) i.there; head = i.head; kind = i.kind },
    at-same feeds now heads active e at,
  )

  pub at-more : (feeds : Feeds) (heads : List Arrival) (active : List Subscription) (a : Arrival) (f : Subscription) → AreAt coarse t feeds heads active → IsAt coarse t feeds a f
      → AreAt coarse t feeds (heads ++ a ∷ []) (active ++ f ∷ [])
  at-more feeds [] [] a f at i = (i, tt)
  at-more feeds [] (g ∷ active) a f at i = absurd at
  at-more feeds (b ∷ heads) [] a f at i = absurd at
  at-more feeds (b ∷ heads) (g ∷ active) a f (j, at) i = (j, at-more feeds heads active a f at i)

  pub at-without : (feeds : Feeds) (heads : List Arrival) (active : List Subscription) (feed : FeedNo) → AreAt coarse t feeds heads active
      → AreAt coarse t feeds (without feed.0 heads) (without_one active feed)
  at-without feeds [] [] feed at = tt
  at-without feeds [] (f ∷ active) feed at = absurd at
  at-without feeds (a ∷ heads) [] feed at = absurd at
  at-without feeds (a ∷ heads) (f ∷ active) feed (i, at) =
      let rest = at-without feeds heads active feed at in
      let test : eqb f.feed feed.0 ≡ eqb a.feed.0 feed.0 = ap (λ n. eqb n feed.0) (sym i.number) in
      elim (cases_Bool (eqb a.feed.0 feed.0)) [
        | inl same ↦ rw (test, same) rest
        | inr other ↦ rw (test, other) (i, rest)
      ]

  pub at-without_all : (feeds : Feeds) (heads : List Arrival) (active : List Subscription) (removed : List FeedNo) → AreAt coarse t feeds heads active
      → AreAt coarse t feeds (without_heads heads removed) (without_all active removed)
  at-without_all feeds heads active [] at = at
  at-without_all feeds heads active (feed ∷ removed) at = at-without_all feeds (without feed.0 heads) (without_one active feed) removed (at-without feeds heads active feed at)

pub all-without : (P : Arrival → Type 0) (heads : List Arrival) (removed : List FeedNo) → All P heads → All P (without_heads heads removed)
all-without P heads [] all = all
all-without P heads (feed ∷ removed) all = all-without P (without feed.0 heads) removed (All-filter (λ a. not (eqb a.feed.0 feed.0)) P heads all)

-- ---- one feed more

slice-keeps : {X : Type 0} (xs ys : List X) (n : ℕ) (x : X) → slice_get xs n ≡ Some x → slice_get (xs ++ ys) n ≡ Some x
slice-keeps [] ys n x h = absurd (none-some x (sym (slice_get_past [] n (omega arith)) ∙ h))
slice-keeps (y ∷ xs) ys zero x h = h
slice-keeps (y ∷ xs) ys (suc n) x h = slice-keeps xs ys n x h

slice-last : {X : Type 0} (xs : List X) (x : X) → slice_get (xs ++ x ∷ []) (length xs) ≡ Some x
slice-last [] x = refl
slice-last (y ∷ xs) x = slice-last xs x

pub some-same : (x y : Taken) → (let o : Option Taken = Some x in o) ≡ Some y → x ≡ y
some-same x y e = ap (of x) e
  where
    of : Taken → Option Taken → Taken
    of d None = d
    of d (Some z) = z

pub opened-one : (stands added_stands new_stands : Start → Feeds → Type 0) (before : Start) (n added : ℕ) (heads new : List Arrival) (keys all : List FeedKey) (feeds : Feeds) (key : FeedKey) (feed : FeedNo) (passed : List Item) (item : Item)
    → Stock stands before n heads keys feeds → feed.0 ≡ n → added ≡ n + 1 → length keys ≡ n → new ≡ heads ++ arrival feed item ∷ [] → all ≡ keys ++ key ∷ []
    → ((b : Start) (f : Feeds) → stands b f → added_stands b (added_to f key (Ok feed))) → TakesOfOne added_stands new_stands feed.0 (passed ++ item ∷ [])
    → All (λ x. fits_first key.start.0 x ≡ false) passed → fits_first key.start.0 item ≡ true
    → Opened new_stands before n added feeds (opened feeds key feed (passed ++ item ∷ [])) heads new all (key ∷ [])
opened-one stands added_stands new_stands before n added heads new keys all feeds key feed passed item stock number more count is keys_is adds takes none past =
    let items = passed ++ item ∷ [] in
    let now = opened feeds key feed items in
    let here = opened-at feeds key feed items in
    let extends = extends-opened feeds key feed items (stock.beyond feed.0 (omega (arith, number))) in
    record {
      stock = record {
        stand = takes before (added_to feeds key (Ok feed)) (adds before feeds stock.stand);
        taken = subst (λ hs. All (IsTaken now) hs) (sym is)
            (All-append (IsTaken now) heads (arrival feed item ∷ []) (taken-same feeds now heads extends stock.taken)
            (All-cons (IsTaken now) (arrival feed item) [] (record { key = key; items = items }, here, Contains-push passed item) (All-nil (IsTaken now))));
        keys_are = λ k taken at. subst (λ xs. slice_get xs k ≡ Some taken.key) (sym keys_is) (key-at k taken at);
        beyond = λ k low. opened-other feeds key feed items k (λ e. absurd (omega (arith, low, more, number, e))) ∙ stock.beyond k (omega (arith, low, more));
      };
      at = λ lists coarse t active are follow may at.
          (let follows = follow feed.0 (record { key = key; items = items }) here in
          let nothing = none-passed key.start.0 (lists key) passed item (are.first key) follows none in
          let start = All-head (MayStart coarse t) (subscription n key) [] may in
          let from : EndsFrom t (end_of item) = from-later t (key.start.0 +ℤ pos 1) item start.from (past-from key.start.0 item past) in
          let head : AtHead t items item = subst (λ xs. AtHead t (xs ++ item ∷ []) item) (sym nothing) (head-first t item from) in
          subst (λ hs. AreAt coarse t now hs (active ++ subscription n key ∷ [])) (sym is)
          (at-more coarse t now heads active (arrival feed item) (subscription n key) (at-same coarse t feeds now heads active extends at)
          (record { number = number; items = items; there = ap now (sym number) ∙ here; head = head; kind = start.kind })));
    }
  where
    from-later : (t s : ℤ) (x : Item) → t ≤ℤ s → EndsFrom s (end_of x) → EndsFrom t (end_of x)
    from-later t s x le h = by (end_of x) h
      where
        by : (o : Option ℤ) → EndsFrom s o → EndsFrom t o
        by None h = tt
        by (Some e) h = omega (arith, ints, le, h)

    key-at : (k : ℕ) (taken : Taken) → opened feeds key feed (passed ++ item ∷ []) k ≡ Some taken → slice_get (keys ++ key ∷ []) k ≡ Some taken.key
    key-at k taken at = elim (eqb_tells k feed.0) [
      | inl h ↦
          (let same = h.1 in
          let is : record { key = key; items = passed ++ item ∷ [] } ≡ taken
          = some-same (record { key = key; items = passed ++ item ∷ [] }) taken (sym (opened-at feeds key feed (passed ++ item ∷ [])) ∙ sym (ap (opened feeds key feed (passed ++ item ∷ [])) same) ∙ at) in
          let place : k ≡ length keys = omega (arith, same, number, count) in
          ap (slice_get (keys ++ key ∷ [])) place ∙ slice-last keys key ∙ ap (λ (x : Taken). Some x.key) is)
      | inr h ↦ slice-keeps keys (key ∷ []) k taken.key (stock.keys_are k taken (sym (opened-other feeds key feed (passed ++ item ∷ []) k h.1) ∙ at))
    ]

numbered-append : (n : ℕ) (ks : List FeedKey) (key : FeedKey) → numbered n (ks ++ key ∷ []) ≡ numbered n ks ++ numbered (n + length ks) (key ∷ [])
numbered-append n [] key = ap (λ k. subscription k key ∷ []) (omega arith)
numbered-append n (k ∷ ks) key =
    ap (λ xs. subscription n k ∷ xs) (numbered-append (n + 1) ks key ∙ ap (λ j. numbered (n + 1) ks ++ subscription j key ∷ []) (omega arith))

all-both : (P : Subscription → Type 0) (xs ys : List Subscription) → All P (xs ++ ys) → All P xs × All P ys
all-both P [] ys all = (All-nil P, all)
all-both P (x ∷ xs) ys all =
    let rest = all-both P xs ys (All-tail P x (xs ++ ys) all) in
    (All-cons P x xs (All-head P x (xs ++ ys) all) rest.0, rest.1)

pub opened-none : (stands : Start → Feeds → Type 0) (before : Start) (n : ℕ) (heads : List Arrival) (keys : List FeedKey) (feeds : Feeds) → Stock stands before n heads keys feeds
    → Opened stands before n n feeds feeds heads heads keys []
opened-none stands before n heads keys feeds stock = record {
  stock = stock;
  at = λ lists coarse t active are follow may at. subst (λ xs. AreAt coarse t feeds heads xs) (sym (append-nil active)) at;
}

pub opened-more : (stands new_stands : Start → Feeds → Type 0) (before : Start) (n now_added added : ℕ) (feeds now later : Feeds) (heads mid new : List Arrival) (keys all ks : List FeedKey) (key : FeedKey)
    → now_added ≡ n + length ks → IsEarlier now later → Opened stands before n now_added feeds now heads mid keys ks → Opened new_stands before now_added added now later mid new all (key ∷ [])
    → Opened new_stands before n added feeds later heads new all (ks ++ key ∷ [])
opened-more stands new_stands before n now_added added feeds now later heads mid new keys all ks key count earlier first then = record {
  stock = then.stock;
  at = λ lists coarse t active are follow may at.
      (let parts = all-both (MayStart coarse t) (numbered n ks) (numbered (n + length ks) (key ∷ [])) (subst (λ xs. All (MayStart coarse t) xs) (numbered-append n ks key) may) in
      let one = first.at lists coarse t active are (earlier.0 lists follow) parts.0 at in
      let two = then.at lists coarse t (active ++ numbered n ks) are follow (subst (λ j. All (MayStart coarse t) (numbered j (key ∷ []))) (sym count) parts.1) one in
      subst (λ xs. AreAt coarse t later new xs) (append_assoc active (numbered n ks) (numbered now_added (key ∷ [])) ∙ ap (λ j. active ++ (numbered n ks ++ numbered j (key ∷ []))) count ∙ ap (λ xs. active ++ xs) (sym (numbered-append n ks key))) two);
}
