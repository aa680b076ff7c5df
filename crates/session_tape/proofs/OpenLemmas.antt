-- The first heads of the feeds, one feed after another.
use Rattle.std.proofs.Common.{◌≡◌, ℕ, zero, suc, ◌+◌, ◌<◌, ◌≤◌, ◌⊎◌, Bool, true, false, cond, eqb, ℤ, pos, List, [], ◌∷◌, ◌++◌, length, Option, Some, None, refl, sym, ap, ◌∙◌, subst, arith, inl, inr}
use Rattle.std.specs.Prelude.{◌≢◌, not, option_map, nat_lt, Ok}
use Rattle.std.specs.List.{All}
use Rattle.std.proofs.lemmas.Bool.{true≢false}
use Rattle.std.proofs.lemmas.Bool.Decides.{eqb_tells}
use Rattle.std.proofs.lemmas.List.Elements.{All-nil, All-cons, All-head, All-tail, All-weaker, All-append, Contains-push}
use Rattle.std.proofs.lemmas.List.{map-append}
use Rattle.std.proofs.lemmas.Option.{none-some}
use Rattle.lean_fixed.specs.Moments.{first_moment}
use Rattle.lean_fixed.specs.Ranges.{IsWindow}
use Rattle.lean_fixed.specs.declared.resolution.Resolution.{Resolution}
use Rattle.lean_fixed.specs.declared.time.Window.{Window}
use Rattle.lean_io.specs.Told.{Files}
use Rattle.lean_items.specs.declared.arrival.Arrival.{Arrival}
use Rattle.lean_items.specs.declared.feed_key.FeedKey.{FeedKey}
use Rattle.lean_items.specs.declared.feed_no.FeedNo.{FeedNo}
use Rattle.lean_items.specs.declared.item.Item.{Item}
use Rattle.lean_items.specs.declared.item.Item.TheVariants.{Bar, Coarse, Bad, Faulted, End}
use Rattle.lean_items.specs.Fits.{fits, Rises}
use Rattle.lean_items.specs.Given.{end_of, is_last, IsRow}
use Rattle.lean_items.specs.Taken.{Start, Feeds, Taken, Follows, AllFollow, added_to, more}
use Rattle.exchange_hours.specs.Entries.{Entries}
use Rattle.frontier_sync.specs.Heads.{arrival, put, fits_first, EndsFrom, AreOpen}
use Rattle.frontier_sync.specs.Slices.{taken_one, TakesOfOne}
use Rattle.frontier_sync.specs.Stands.{HeadsStand, IsTaken, AtHead, is_coarse, AreBars}
use Rattle.frontier_sync.proofs.FirstLemmas.{past-from}
use Rattle.frontier_sync.proofs.PlaceLemmas.{kept-all, kept-none}
use Rattle.frontier_sync.proofs.StandLemmas.{head-first, stand-more, stand-same}
use Rattle.session_tape.specs.Session.{session_key}
use Rattle.session_tape.specs.Walked.{keys_of, AreFeeds}
use Rattle.session_tape.proofs.ListLemmas.{list_rises, one_more, are_bars}
use Rattle.session_tape.proofs.WalkLemmas.{AreNumbered, AllFrom}

-- ---- heads with rising numbers

below : (n : ℕ) (a : Arrival) → a.feed.0 < n → nat_lt a.feed.0 n ≡ true
below n a h = grind arith

not_above : (n : ℕ) (a : Arrival) → a.feed.0 < n → nat_lt n a.feed.0 ≡ false
not_above n a h = grind arith

-- the head of a feed past all others stands behind them
pub put_last : (head : Arrival) (heads : List Arrival) → AreNumbered head.feed.0 heads → put head heads ≡ heads ++ head ∷ []
put_last head heads all =
    let n = head.feed.0 in
    let front = kept-all (λ (b : Arrival). nat_lt b.feed.0 n) heads (All-weaker (λ (b : Arrival). b.feed.0 < n) (λ (b : Arrival). nat_lt b.feed.0 n ≡ true) (λ b h. below n b h) heads all) in
    let back = kept-none (λ (b : Arrival). nat_lt n b.feed.0) heads (All-weaker (λ (b : Arrival). b.feed.0 < n) (λ (b : Arrival). nat_lt n b.feed.0 ≡ false) (λ b h. not_above n b h) heads all) in
    rw (front, back) refl

pub numbered_more : (n : ℕ) (head : Arrival) (heads : List Arrival) → head.feed.0 ≡ n → AreNumbered n heads → AreNumbered (n + 1) (heads ++ head ∷ [])
numbered_more n head heads is all =
    All-append (λ a. a.feed.0 < n + 1) heads (head ∷ [])
    (All-weaker (λ a. a.feed.0 < n) (λ a. a.feed.0 < n + 1) (λ a h. omega (arith, h)) heads all)
    (All-cons (λ a. a.feed.0 < n + 1) head [] (omega (arith, is)) (All-nil (λ a. a.feed.0 < n + 1)))

eqb_same : (n : ℕ) → eqb n n ≡ true
eqb_same n = elim (eqb_tells n n) [ inl h ↦ h.0 | inr h ↦ absurd (h.1 refl) ]

eqb_other : (n k : ℕ) → n ≢ k → eqb n k ≡ false
eqb_other n k d = elim (eqb_tells n k) [ inl h ↦ absurd (d h.1) | inr h ↦ h.0 ]

-- the feeds of all heads are open, once a feed more was opened
pub open_more : (before added now : ℕ → Bool) (feed : FeedNo) (item : Item) (heads : List Arrival) → AreNumbered feed.0 heads → AreOpen before heads
    → ((n : ℕ) → added n ≡ cond (eqb n feed.0) true (before n)) → ((n : ℕ) → now n ≡ cond (eqb n feed.0) (not (is_last item)) (added n))
    → AreOpen now (heads ++ arrival feed item ∷ [])
open_more before added now feed item heads numbered are_open adds takes =
    All-append (λ a. IsRow a.item → now a.feed.0 ≡ true) heads (arrival feed item ∷ []) (old heads numbered are_open)
    (All-cons (λ a. IsRow a.item → now a.feed.0 ≡ true) (arrival feed item) [] (λ row. takes feed.0 ∙ here row) (All-nil (λ a. IsRow a.item → now a.feed.0 ≡ true)))
  where
    here : IsRow item → cond (eqb feed.0 feed.0) (not (is_last item)) (added feed.0) ≡ true
    here row = rw (eqb_same feed.0, row) refl

    there : (n : ℕ) → n < feed.0 → before n ≡ true → now n ≡ true
    there n lt h =
        let other = eqb_other n feed.0 (λ e. absurd (omega (arith, lt, e))) in
        takes n ∙ ap (λ b. cond b (not (is_last item)) (added n)) other ∙ adds n ∙ ap (λ b. cond b true (before n)) other ∙ h

    old : (hs : List Arrival) → AreNumbered feed.0 hs → AreOpen before hs → AreOpen now hs
    old [] few all = All-nil (λ a. IsRow a.item → now a.feed.0 ≡ true)
    old (a ∷ hs) few all =
        All-cons (λ x. IsRow x.item → now x.feed.0 ≡ true) a hs
        (λ row. there a.feed.0 (All-head (λ x. x.feed.0 < feed.0) a hs few) (All-head (λ x. IsRow x.item → before x.feed.0 ≡ true) a hs all row))
        (old hs (All-tail (λ x. x.feed.0 < feed.0) a hs few) (All-tail (λ x. IsRow x.item → before x.feed.0 ≡ true) a hs all))

pub later_more : (start : ℕ) (feed : FeedNo) (item : Item) (heads : List Arrival) → fits_first (pos start) item ≡ true → AllFrom (start + 1) heads → AllFrom (start + 1) (heads ++ arrival feed item ∷ [])
later_more start feed item heads past all =
    All-append (λ a. EndsFrom (pos (start + 1)) (end_of a.item)) heads (arrival feed item ∷ []) all
    (All-cons (λ a. EndsFrom (pos (start + 1)) (end_of a.item)) (arrival feed item) [] (past-from (pos start) item past) (All-nil (λ a. EndsFrom (pos (start + 1)) (end_of a.item))))

-- ---- the maps of what was taken

new_at : (b : Bool) (old : Option Taken) (key : FeedKey) (items : List Item) → b ≡ true
    → cond b (option_map (more items) (cond b (Some (record { key = key; items = [] })) old)) (cond b (Some (record { key = key; items = [] })) old)
    ≡ Some (record { key = key; items = items })
new_at true old key items h = refl
new_at false old key items h = absurd (true≢false (sym h))

other_at : (b : Bool) (old : Option Taken) (key : FeedKey) (items : List Item) → b ≡ false
    → cond b (option_map (more items) (cond b (Some (record { key = key; items = [] })) old)) (cond b (Some (record { key = key; items = [] })) old) ≡ old
other_at true old key items h = absurd (true≢false h)
other_at false old key items h = refl

-- a feed was added, and its first items were taken
abbrev pub opened : Feeds → FeedKey → FeedNo → List Item → Feeds
opened feeds key feed items = taken_one (added_to feeds key (Ok feed)) feed.0 items

opened_at : (feeds : Feeds) (key : FeedKey) (feed : FeedNo) (items : List Item) → opened feeds key feed items feed.0 ≡ Some (record { key = key; items = items })
opened_at feeds key feed items = new_at (eqb feed.0 feed.0) (feeds feed.0) key items (eqb_same feed.0)

opened_other : (feeds : Feeds) (key : FeedKey) (feed : FeedNo) (items : List Item) (n : ℕ) → n ≢ feed.0 → opened feeds key feed items n ≡ feeds n
opened_other feeds key feed items n other = other_at (eqb n feed.0) (feeds n) key items (eqb_other n feed.0 other)

-- ---- nothing is passed over before the first head

past_fits : (start : ℤ) (item : Item) → fits start item ≡ true → is_coarse item ≡ false → fits_first start item ≡ true
past_fits start (Bar bar) h bars = h
past_fits start (Coarse at row) h bars = absurd (true≢false bars)
past_fits start (Bad bad) h bars = refl
past_fits start Faulted h bars = refl
past_fits start End h bars = refl

first_of : (start : ℤ) (list : List Item) (p : Item) (rest : List Item) → Rises start list → AreBars list → list ≡ p ∷ rest → fits_first start p ≡ true
first_of start list p rest rises bars e =
    let r : Rises start (p ∷ rest) = subst (Rises start) e rises in
    let b : AreBars (p ∷ rest) = subst AreBars e bars in
    past_fits start p r.0 (All-head (λ x. is_coarse x ≡ false) p rest b)

pub none_passed : (start : ℤ) (list passed : List Item) (item : Item) → Rises start list → AreBars list → Follows list (passed ++ item ∷ [])
    → All (λ x. fits_first start x ≡ false) passed → passed ≡ []
none_passed start list [] item rises bars follows before = refl
none_passed start list (p ∷ passed) item rises bars (inl (rest, is)) before =
    absurd (true≢false (sym (first_of start list p ((passed ++ item ∷ []) ++ rest) rises bars is) ∙ All-head (λ x. fits_first start x ≡ false) p passed before))
none_passed start list (p ∷ passed) item rises bars (inr ([], rest, is, list_is, all)) before =
    let fault : p ≡ Faulted = ap (head_or p) is in
    absurd (true≢false (sym (ap (fits_first start) fault) ∙ All-head (λ x. fits_first start x ≡ false) p passed before))
  where
    head_or : Item → List Item → Item
    head_or d [] = d
    head_or d (x ∷ xs) = x
none_passed start list (p ∷ passed) item rises bars (inr (r ∷ rows, rest, is, list_is, all)) before =
    let same : p ≡ r = ap (head_or p) is in
    let ends = first_of start list r (rows ++ rest) rises bars list_is in
    absurd (true≢false (sym ends ∙ ap (fits_first start) (sym same) ∙ All-head (λ x. fits_first start x ≡ false) p passed before))
  where
    head_or : Item → List Item → Item
    head_or d [] = d
    head_or d (x ∷ xs) = x

-- ---- what is known of the feeds that were opened

module _ (resolution : Resolution) (window : Window) where
  abbrev first : ℕ
  first = first_moment window

  pub record Opened (stands : Start → Feeds → Type 0) (before : Start) (heads : List Arrival) (symbols : List (List ℕ)) : Type 0 where
    pub feeds : Feeds
    pub stands_now : stands before feeds
    pub taken : All (IsTaken feeds) heads
    pub beyond : (n : ℕ) → length symbols ≤ n → feeds n ≡ None
    pub stand : (lists : FeedKey → List Item) (f : Files) (hours : Entries) → AreFeeds lists f hours window → AllFollow lists feeds
        → HeadsStand (pos (first + 1)) feeds 0 heads (keys_of resolution window symbols)

  -- one symbol more
  pub opened_more : (is_window : IsWindow window) (old added new : Start → Feeds → Type 0) (before : Start) (heads : List Arrival) (symbols : List (List ℕ)) (symbol : List ℕ) (feed : FeedNo)
      (passed : List Item) (item : Item) → Opened old before heads symbols
      → ((b : Start) (feeds : Feeds) → old b feeds → added b (added_to feeds (session_key resolution window symbol) (Ok feed)))
      → TakesOfOne added new feed.0 (passed ++ item ∷ []) → All (λ x. fits_first (pos first) x ≡ false) passed → fits_first (pos first) item ≡ true
      → feed.0 ≡ length symbols → AreNumbered (length symbols) heads → Opened new before (heads ++ arrival feed item ∷ []) (symbols ++ symbol ∷ [])
  opened_more is_window old added new before heads symbols symbol feed passed item o adds takes none past number numbered =
      let key = session_key resolution window symbol in
      let items = passed ++ item ∷ [] in
      let now = opened o.feeds key feed items in
      let count = one_more symbols symbol in
      let here = opened_at o.feeds key feed items in
      let apart : (n : ℕ) → n < length symbols → n ≢ feed.0 = λ n lt e. absurd (omega (arith, lt, number, e)) in
      record {
        feeds = now;
        stands_now = takes before (added_to o.feeds key (Ok feed)) (adds before o.feeds o.stands_now);
        taken = All-append (IsTaken now) heads (arrival feed item ∷ [])
            (still_taken heads now (λ a lt. opened_other o.feeds key feed items a.feed.0 (apart a.feed.0 lt)) numbered o.taken)
            (All-cons (IsTaken now) (arrival feed item) [] (record { key = key; items = items }, here, Contains-push passed item) (All-nil (IsTaken now)));
        beyond = λ n le. opened_other o.feeds key feed items n (λ e. absurd (omega (arith, le, count, number, e))) ∙ o.beyond n (omega (arith, le, count));
        stand = λ lists f hours are follow.
            (let was : AllFollow lists o.feeds = earlier lists now follow (λ n lt. opened_other o.feeds key feed items n (apart n lt)) in
            let all = o.stand lists f hours are was in
            let follows = follow feed.0 (record { key = key; items = items }) here in
            let nothing = none_passed (pos first) (lists key) passed item (list_rises f hours resolution window is_window lists are symbol) (are_bars f hours resolution window is_window lists are symbol) follows none in
            let head : AtHead (pos (first + 1)) items item = subst (λ xs. AtHead (pos (first + 1)) (xs ++ item ∷ []) item) (sym nothing) (head-first (pos (first + 1)) item (past-from (pos first) item past)) in
            let same = stand-same (pos (first + 1)) 0 o.feeds now heads (keys_of resolution window symbols) all
            (λ m low high. opened_other o.feeds key feed items m (apart m (omega (arith, high, keys_count symbols)))) in
            let place : feed.0 ≡ 0 + length (keys_of resolution window symbols) = omega (arith, number, keys_count symbols) in
            subst (λ ks. HeadsStand (pos (first + 1)) now 0 (heads ++ arrival feed item ∷ []) ks) (sym (map-append (session_key resolution window) symbols (symbol ∷ [])))
            (stand-more (pos (first + 1)) 0 now heads (keys_of resolution window symbols) (arrival feed item) key items same place
            (subst (λ k. now k ≡ Some (record { key = key; items = items })) place here) head));
      }
    where
      keys_count : (xs : List (List ℕ)) → length (keys_of resolution window xs) ≡ length xs
      keys_count [] = refl
      keys_count (x ∷ xs) = ap suc (keys_count xs)

      still_taken : (hs : List Arrival) (now : Feeds) → ((a : Arrival) → a.feed.0 < length symbols → now a.feed.0 ≡ o.feeds a.feed.0) → AreNumbered (length symbols) hs
          → All (IsTaken o.feeds) hs → All (IsTaken now) hs
      still_taken [] now same few all = All-nil (IsTaken now)
      still_taken (a ∷ hs) now same few all =
          let (t, is, has) = All-head (IsTaken o.feeds) a hs all in
          All-cons (IsTaken now) a hs (t, same a (All-head (λ x. x.feed.0 < length symbols) a hs few) ∙ is, has)
          (still_taken hs now same (All-tail (λ x. x.feed.0 < length symbols) a hs few) (All-tail (IsTaken o.feeds) a hs all))

      earlier : (lists : FeedKey → List Item) (now : Feeds) → AllFollow lists now → ((n : ℕ) → n < length symbols → now n ≡ o.feeds n) → AllFollow lists o.feeds
      earlier lists now follow same n t at = elim (order n (length symbols)) [
        | inl lt ↦ follow n t (same n lt ∙ at)
        | inr ge ↦ absurd (none-some t (sym (o.beyond n ge) ∙ at))
      ]
        where
          order : (a b : ℕ) → (a < b) ⊎ (b ≤ a)
          order zero zero = inr (omega arith)
          order zero (suc b) = inl (omega arith)
          order (suc a) zero = inr (omega arith)
          order (suc a) (suc b) = elim (order a b) [ inl h ↦ inl (omega (arith, h)) | inr h ↦ inr (omega (arith, h)) ]
