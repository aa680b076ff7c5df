-- What stands in the seats of a pool with workers, after an item was taken, and after a feed was added, shut or let go.
use Rattle.std.proofs.Common.{◌≡◌, ℕ, ◌+◌, ◌-◌, ◌<◌, ◌≤◌, Bool, true, false, cond, eqb, List, [], ◌∷◌, ◌++◌, get_or, set, map, length, Option, Some, None, inl, inr, refl, sym, ap, ◌∙◌, subst, arith}
use Rattle.std.specs.Prelude.{◌^◌, not, option_map, MatchOption, Ok}
use Rattle.std.specs.List.{Contains}
use Rattle.std.proofs.lemmas.Bool.{cases_lt}
use Rattle.std.proofs.lemmas.Bool.Decides.{eqb_tells}
use Rattle.std.proofs.lemmas.List.{get_or_past, get_or_push, get_or-set_same, get_or-set_other, set_past, map-set, map-append, length-map}
use Rattle.std.proofs.Math.ListN.{get_or-map}
use Rattle.std.proofs.Math.Seq.{map-set_same}
use Rattle.lean_fixed.specs.Counts.{Rose, raised}
use Rattle.lean_items.specs.declared.feeds.Feed.{Ghosts}
use Rattle.lean_items.specs.declared.feed_key.FeedKey.{FeedKey}
use Rattle.lean_items.specs.declared.item.Item.{Item}
use Rattle.lean_items.specs.declared.item.Item.TheVariants.{Bar, Coarse, Bad, Faulted, End}
use Rattle.lean_items.specs.Given.{is_last, OnRow}
use Rattle.lean_items.specs.Taken.{Start, Taken, Feeds, Follows, AllFollow, FaultsRose, added_to, taken_of, more}
use Rattle.work_scheduler.specs.declared.turn.Turn.{Turn}
use Rattle.work_scheduler.specs.Turns.{Stands}
use Rattle.feed_workers.specs.declared.seat.Seat.{Seat}
use Rattle.feed_workers.specs.Seats.{Unseated}
use Rattle.feed_workers.specs.Shown.{Shown, TookItem, shown, shut}
use Rattle.feed_pool.specs.Crews.{told_of, is_open_seat, is_open_in, room_of_seat, room_in, Took, shut_in, show, show_all, IsLeft, IsGone, Collected, IsSeated, Standing, Manned}
use Rattle.feed_pool.specs.Running.{IsSettled, one, held}
use Rattle.feed_pool.proofs.EachLemmas.{each-kept, each-added, each-taken, each-set, each-popped, push_other}
use Rattle.feed_pool.proofs.HandLemmas.{held-push, held-set, held-taken, held-removed}
use Rattle.feed_pool.proofs.RunLemmas.{rose-by}

on-row : (item : Item) (P : Type 0) → P → OnRow item P
on-row (Bar bar) P p = p
on-row (Coarse at row) P p = p
on-row (Bad bad) P p = tt
on-row Faulted P p = tt
on-row End P p = tt

module _ {T : Type 0} where
  opened-set : (seats : List (Option (Shown T))) (k : ℕ) (x : Option (Shown T)) → k < length seats → (n : ℕ)
      → is_open_in (set seats k x) n ≡ cond (eqb n k) (is_open_seat x) (is_open_in seats n)
  opened-set seats k x within n = elim (eqb_tells n k) [
    | inl h ↦ subst (λ b. is_open_in (set seats k x) n ≡ cond b (is_open_seat x) (is_open_in seats n)) (sym h.0)
        (subst (λ m. is_open_seat (get_or (set seats k x) m None) ≡ is_open_seat x) (sym h.1) (ap is_open_seat (get_or-set_same seats k x None within)))
    | inr h ↦ subst (λ b. is_open_in (set seats k x) n ≡ cond b (is_open_seat x) (is_open_in seats n)) (sym h.0)
        (ap is_open_seat (get_or-set_other seats k n x None h.1))
  ]

  -- a place that is open stands in the list
  pub open-within : (seats : List (Option (Shown T))) (n : ℕ) → is_open_in seats n ≡ true → n < length seats
  open-within seats n there = elim (cases_lt n (length seats)) [
    | inl h ↦ h
    | inr h ↦ (let none : is_open_in seats n ≡ false = ap is_open_seat (get_or_past seats n None h) in absurd cc)
  ]

  shut-closed : (x : Option (Shown T)) → is_open_seat (option_map shut x) ≡ false
  shut-closed None = refl
  shut-closed (Some seat) = refl

  shut-one : (x : Option (Shown T)) → one (option_map shut x) ≡ one x
  shut-one None = refl
  shut-one (Some seat) = refl

  -- nothing more is taken of a feed that was removed
  pub opened-shut : (seats : List (Option (Shown T))) (k n : ℕ) → is_open_in (shut_in seats k) n ≡ cond (eqb n k) false (is_open_in seats n)
  opened-shut seats k n = elim (cases_lt k (length seats)) [
    | inl h ↦ opened-set seats k (option_map shut (get_or seats k None)) h n ∙ ap (λ b. cond (eqb n k) b (is_open_in seats n)) (shut-closed (get_or seats k None))
    | inr h ↦ ap (λ s. is_open_in s n) (set_past seats k (option_map shut (get_or seats k None)) h) ∙ elim (eqb_tells n k) [
      | inl e ↦ subst (λ b. is_open_in seats n ≡ cond b false (is_open_in seats n)) (sym e.0)
          (subst (λ m. is_open_seat (get_or seats m None) ≡ false) (sym e.1) (ap is_open_seat (get_or_past seats k None h)))
      | inr e ↦ subst (λ b. is_open_in seats n ≡ cond b false (is_open_in seats n)) (sym e.0) refl
    ]
  ]

  held-shut : (seats : List (Option (Shown T))) (k : ℕ) → held (shut_in seats k) ≡ held seats
  held-shut seats k = elim (cases_lt k (length seats)) [
    | inl h ↦ omega (arith, held-set seats k (option_map shut (get_or seats k None)) h, shut-one (get_or seats k None))
    | inr h ↦ ap held (set_past seats k (option_map shut (get_or seats k None)) h)
  ]

module _ {G : Type 0} {feed : Ghosts G} where
  shows-at : (seats : List (Option (Seat G feed))) (k : ℕ) → get_or (show_all seats) k None ≡ show (get_or seats k None)
  shows-at seats k = get_or-map show seats k None

  -- what is shown of a place that changed
  pub shows-set : (seats : List (Option (Seat G feed))) (k : ℕ) (x : Option (Seat G feed)) → show_all (set seats k x) ≡ set (show_all seats) k (show x)
  shows-set seats k x = map-set show seats k x

  pub shows-push : (seats : List (Option (Seat G feed))) (x : Option (Seat G feed)) → show_all (seats ++ x ∷ []) ≡ show_all seats ++ show x ∷ []
  shows-push seats x = map-append show seats (x ∷ [])

  pub shows-length : (seats : List (Option (Seat G feed))) → length (show_all seats) ≡ length seats
  shows-length seats = length-map seats show

  -- nothing that is shown changed in a place
  pub same-at : (seats : List (Option (Seat G feed))) (k : ℕ) (was x : Option (Seat G feed)) → was ≡ get_or seats k None → show x ≡ show was
      → show_all (set seats k x) ≡ show_all seats
  same-at seats k was x there same = map-set_same show seats k x None (same ∙ ap show there)

  pub shut-at : (seats : List (Option (Seat G feed))) (k : ℕ) (was x : Option (Seat G feed)) → was ≡ get_or seats k None → show x ≡ option_map shut (show was)
      → show_all (set seats k x) ≡ shut_in (show_all seats) k
  shut-at seats k was x there closed =
      shows-set seats k x ∙ ap (λ y. set (show_all seats) k y) (closed ∙ ap (λ y. option_map shut (show y)) there ∙ ap (option_map shut) (sym (shows-at seats k)))

  pub shut-past : (seats : List (Option (Seat G feed))) (k : ℕ) → length seats ≤ k → show_all seats ≡ shut_in (show_all seats) k
  shut-past seats k past =
      let long : length (show_all seats) ≤ k = omega (arith, shows-length seats, past) in
      sym (set_past (show_all seats) k (option_map shut (get_or (show_all seats) k None)) long)

  pub collected-at : (seats : List (Option (Seat G feed))) (k : ℕ) (was x : Option (Seat G feed)) (result : Option G) → k < length seats → was ≡ get_or seats k None
      → MatchOption result (show x ≡ show was) (λ left. IsLeft (show was) (show x) left) → Collected (show_all seats) (show_all (set seats k x)) result
  collected-at seats k was x None within there same = same-at seats k was x there same
  collected-at seats k was x (Some left) within there leaves = record {
    place = k;
    within = omega (arith, within, shows-length seats);
    seat = show x;
    leaves = subst (λ y. IsLeft y (show x) left) (ap show there ∙ sym (shows-at seats k)) leaves;
    now = shows-set seats k x;
  }

  -- an item was taken of the feed in a place
  pub opened-took : (seats : List (Option (Seat G feed))) (k : ℕ) (was x : Option (Seat G feed)) (item : Item) → k < length seats → Took (show was) (show x) item
      → (n : ℕ) → is_open_in (show_all (set seats k x)) n ≡ cond (eqb n k) (not (is_last item)) (is_open_in (show_all seats) n)
  opened-took seats k was x item within took n =
      let long : k < length (show_all seats) = omega (arith, within, shows-length seats) in
      ap (λ s. is_open_in s n) (shows-set seats k x) ∙ opened-set (show_all seats) k (show x) long n
      ∙ ap (λ b. cond (eqb n k) b (is_open_in (show_all seats) n)) (ap is_open_seat took.still ∙ took.took.open_now)

  pub fewer-took : (seats : List (Option (Seat G feed))) (k : ℕ) (was x : Option (Seat G feed)) (item : Item) → k < length seats → was ≡ get_or seats k None
      → Took (show was) (show x) item → OnRow item (room_in (show_all (set seats k x)) k < room_in (show_all seats) k)
  fewer-took seats k was x item within there took =
      let long : k < length (show_all seats) = omega (arith, within, shows-length seats) in
      let now : room_in (show_all (set seats k x)) k ≡ 2 ^ 40 - 1 - took.is.count
      = ap (λ s. room_in s k) (shows-set seats k x) ∙ ap room_of_seat (get_or-set_same (show_all seats) k (show x) None long ∙ took.still) in
      let before : room_in (show_all seats) k ≡ 2 ^ 40 - 1 - took.was.count = ap room_of_seat (shows-at seats k ∙ ap show (sym there) ∙ took.there) in
      on-row item _ (omega (arith, now, before, took.took.few, took.took.count))

  module _ (lists : Option (FeedKey → List Item)) where
    stand-later : (before now later : ℕ) → now ≤ later → (x : Option (Shown (Turn G feed))) (taken : Taken)
        → Standing lists before now x taken → Standing lists before later x taken
    stand-later before now later grows None taken settled = record { follows = settled.follows; rose = λ has. omega (arith, settled.rose has, grows) }
    stand-later before now later grows (Some seat) taken seated = seated

    -- a feed that was let go, and whose hand was given back
    settled-one : (before now later : ℕ) (seat : Shown (Turn G feed)) (left : G) (taken : Taken) → before ≤ now → later ≡ raised now (feed.faults left)
        → Unseated seat.origin seat.items left → IsSeated lists seat taken → IsSettled lists before later taken
    settled-one before now later seat left taken since raises unseated seated =
        let both = unseated (told_of lists taken.key) 0 seated.stands in
        record {
          follows = λ l is. subst (λ i. Follows (l taken.key) i) (sym seated.items) (both.0 (l taken.key) (ap (option_map (λ m. m taken.key)) is));
          rose = λ has. subst (λ n. Rose before n) (sym raises) (rose-by before now (feed.faults left) since (both.1 (subst (λ i. Contains i Faulted) seated.items has)));
        }

    seat-took : (before now : ℕ) (old new : Option (Shown (Turn G feed))) (item : Item) (taken : Taken) → Took old new item
        → Standing lists before now old taken → Standing lists before now new (more (item ∷ []) taken)
    seat-took before now old new item taken took standing =
        let seated : IsSeated lists took.was taken = subst (λ x. Standing lists before now x taken) took.there standing in
        subst (λ x. Standing lists before now x (more (item ∷ []) taken)) (sym took.still) (record {
          items = ap (λ i. i ++ item ∷ []) seated.items ∙ sym took.took.items;
          stands = subst (λ o. Stands (told_of lists taken.key) 0 o) (sym took.took.origin) seated.stands;
        })

    seat-shut : (before now : ℕ) (x : Option (Shown (Turn G feed))) (taken : Taken) → Standing lists before now x taken → Standing lists before now (option_map shut x) taken
    seat-shut before now None taken settled = settled
    seat-shut before now (Some seat) taken seated = record { items = seated.items; stands = seated.stands }

    seat-left : (before now later : ℕ) (x y : Option (Shown (Turn G feed))) (left : G) (taken : Taken) → before ≤ now → later ≡ raised now (feed.faults left)
        → IsLeft x y left → Standing lists before now x taken → Standing lists before later y taken
    seat-left before now later x y left taken since raises leaves standing =
        subst (λ z. Standing lists before later z taken) (sym leaves.gone)
        (settled-one before now later leaves.was left taken since raises leaves.settled (subst (λ z. Standing lists before now z taken) leaves.there standing))

    pub manned-took : (start now : Start) (seats : List (Option (Seat G feed))) (feeds : Feeds) (k : ℕ) (was x : Option (Seat G feed)) (item : Item)
        → k < length seats → was ≡ get_or seats k None → Took (show was) (show x) item
        → Manned lists start now (show_all seats) feeds → Manned lists start now (show_all (set seats k x)) (taken_of feeds k item)
    manned-took start now seats feeds k was x item within there took manned =
        let long : k < length (show_all seats) = omega (arith, within, shows-length seats) in
        let took_here : Took (get_or (show_all seats) k None) (show x) item = subst (λ y. Took y (show x) item) (ap show there ∙ sym (shows-at seats k)) took in
        subst (λ s. Manned lists start now s (taken_of feeds k item)) (sym (shows-set seats k x)) (record {
          since = manned.since;
          each = each-taken (Standing lists start.faults now.faults) (Standing lists start.faults now.faults) (λ y t standing. standing) (show_all seats) feeds k (show x) item long
              (λ t standing. seat-took start.faults now.faults (get_or (show_all seats) k None) (show x) item t took_here standing) manned.each;
          hands = manned.hands ∙ ap (λ n. start.hands + n) (sym (held-taken (show_all seats) k (show x) long (ap one took_here.there) (ap one took_here.still)));
        })

    -- the folder's counts rose, and no hand is out that was not
    pub manned-later : (start now later : Start) (seats : List (Option (Shown (Turn G feed)))) (feeds : Feeds) → now.faults ≤ later.faults → later.hands ≡ now.hands
        → Manned lists start now seats feeds → Manned lists start later seats feeds
    manned-later start now later seats feeds grows same manned = record {
      since = omega (arith, manned.since, grows);
      each = each-kept (Standing lists start.faults now.faults) (Standing lists start.faults later.faults) (stand-later start.faults now.faults later.faults grows) seats feeds manned.each;
      hands = same ∙ manned.hands;
    }

    pub manned-shut : (start now : Start) (seats : List (Option (Shown (Turn G feed)))) (feeds : Feeds) (k : ℕ)
        → Manned lists start now seats feeds → Manned lists start now (shut_in seats k) feeds
    manned-shut start now seats feeds k manned = elim (cases_lt k (length seats)) [
      | inl h ↦ record {
        since = manned.since;
        each = each-set (Standing lists start.faults now.faults) (Standing lists start.faults now.faults) (λ y t standing. standing) seats feeds k (option_map shut (get_or seats k None)) h
            (λ t standing. seat-shut start.faults now.faults (get_or seats k None) t standing) manned.each;
        hands = manned.hands ∙ ap (λ n. start.hands + n) (sym (held-shut seats k));
      }
      | inr h ↦ subst (λ s. Manned lists start now s feeds) (sym (set_past seats k (option_map shut (get_or seats k None)) h)) manned
    ]

    pub manned-gone : (start now later : Start) (seats new : List (Option (Shown (Turn G feed)))) (feeds : Feeds) (left : G) → now.faults ≤ later.faults
        → later.faults ≡ raised now.faults (feed.faults left) → later.hands ≡ now.hands - 1 → IsGone seats new left
        → Manned lists start now seats feeds → Manned lists start later new feeds
    manned-gone start now later seats new feeds left grows raises back gone manned =
        subst (λ s. Manned lists start later s feeds) (sym gone.now) (record {
          since = omega (arith, manned.since, grows);
          each = each-set (Standing lists start.faults now.faults) (Standing lists start.faults later.faults) (stand-later start.faults now.faults later.faults grows) seats feeds gone.place gone.seat gone.within
              (λ t standing. seat-left start.faults now.faults later.faults (get_or seats gone.place None) gone.seat left t manned.since raises gone.leaves standing) manned.each;
          hands = omega (arith, held-set seats gone.place gone.seat gone.within, ap one gone.leaves.there, ap one gone.leaves.gone, manned.hands, back);
        })

    pub manned-added : (start now later : Start) (seats : List (Option (Seat G feed))) (feeds : Feeds) (k : ℕ) (seat : Seat G feed) (key : FeedKey) → length seats ≡ k
        → later.faults ≡ now.faults → later.hands ≡ now.hands + 1 → (shown seat).items ≡ [] → Stands (told_of lists key) 0 (shown seat).origin
        → Manned lists start now (show_all seats) feeds
        → Manned lists start later (show_all (seats ++ Some seat ∷ [])) (added_to feeds key (Ok (record { 0 = k })))
    manned-added start now later seats feeds k seat key count same more_hands none stands manned =
        subst (λ s. Manned lists start later s (added_to feeds key (Ok (record { 0 = k })))) (sym (shows-push seats (Some seat))) (record {
          since = omega (arith, manned.since, same);
          each = each-added (Standing lists start.faults now.faults) (Standing lists start.faults later.faults) (stand-later start.faults now.faults later.faults (omega (arith, same)))
              (show_all seats) feeds k (Some (shown seat)) key (shows-length seats ∙ count) (record { items = sym none; stands = stands }) manned.each;
          hands = omega (arith, more_hands, manned.hands, held-push (show_all seats) (Some (shown seat)));
        })

    -- the last feed was let go
    pub manned-popped : (start now later : Start) (seats : List (Option (Seat G feed))) (seat : Seat G feed) (feeds : Feeds) (left : G) → now.faults ≤ later.faults
        → later.faults ≡ raised now.faults (feed.faults left) → later.hands ≡ now.hands - 1 → Unseated (shown seat).origin (shown seat).items left
        → Manned lists start now (show_all (seats ++ Some seat ∷ [])) feeds → Manned lists start later (show_all seats) feeds
    manned-popped start now later seats seat feeds left grows raises back unseated had =
        let manned : Manned lists start now (show_all seats ++ Some (shown seat) ∷ []) feeds = subst (λ s. Manned lists start now s feeds) (shows-push seats (Some seat)) had in
        record {
          since = omega (arith, manned.since, grows);
          each = each-popped (Standing lists start.faults now.faults) (Standing lists start.faults later.faults) (stand-later start.faults now.faults later.faults grows) (show_all seats) (Some (shown seat)) feeds
              (λ t seated. settled-one start.faults now.faults later.faults (shown seat) left t manned.since raises unseated seated) manned.each;
          hands = omega (arith, back, manned.hands, held-push (show_all seats) (Some (shown seat)));
        }

    pub manned-passed : (start now : Start) (seats : List (Option (Seat G feed))) (feeds : Feeds)
        → Manned lists start now (show_all (seats ++ None ∷ [])) feeds → Manned lists start now (show_all seats) feeds
    manned-passed start now seats feeds had =
        let manned : Manned lists start now (show_all seats ++ None ∷ []) feeds = subst (λ s. Manned lists start now s feeds) (shows-push seats None) had in
        record {
          since = manned.since;
          each = each-popped (Standing lists start.faults now.faults) (Standing lists start.faults now.faults) (λ y t standing. standing) (show_all seats) None feeds
              (λ t settled. settled) manned.each;
          hands = omega (arith, manned.hands, held-push (show_all seats) None);
        }

    -- all feeds were let go
    pub none-left : (seats : List (Option (Seat G feed))) (start now : Start) (feeds : Feeds) → length seats ≡ 0 → Manned lists start now (show_all seats) feeds
        → ((l : FeedKey → List Item) → lists ≡ Some l → AllFollow l feeds) × FaultsRose feeds start.faults now.faults × (now.hands ≡ start.hands)
    none-left [] start now feeds none manned =
        ((λ l told n t is. (manned.each n t is).follows l told), (λ n t is has. (manned.each n t is).rose has), omega (arith, manned.hands))
    none-left (x ∷ seats) start now feeds none manned = absurd (omega (arith, none))

  pub opened-gone : (seats new : List (Option (Shown (Turn G feed)))) (left : G) → IsGone seats new left → (n : ℕ) → is_open_in new n ≡ is_open_in seats n
  opened-gone seats new left gone n =
      ap (λ s. is_open_in s n) gone.now ∙ opened-set seats gone.place gone.seat gone.within n ∙ elim (eqb_tells n gone.place) [
        | inl h ↦ subst (λ b. cond b (is_open_seat gone.seat) (is_open_in seats n) ≡ is_open_in seats n) (sym h.0)
            (ap is_open_seat gone.leaves.gone ∙ sym (subst (λ m. is_open_seat (get_or seats m None) ≡ false) (sym h.1) (ap is_open_seat gone.leaves.there ∙ gone.leaves.closed)))
        | inr h ↦ subst (λ b. cond b (is_open_seat gone.seat) (is_open_in seats n) ≡ is_open_in seats n) (sym h.0) refl
      ]

  -- a feed was added
  pub opened-added : (seats : List (Option (Seat G feed))) (seat : Seat G feed) (k n : ℕ) → length seats ≡ k → (shown seat).open_now ≡ true
      → is_open_in (show_all (seats ++ Some seat ∷ [])) n ≡ cond (eqb n k) true (is_open_in (show_all seats) n)
  opened-added seats seat k n count opened =
      let long : length (show_all seats) ≡ k = shows-length seats ∙ count in
      ap (λ s. is_open_in s n) (shows-push seats (Some seat)) ∙ elim (eqb_tells n k) [
        | inl h ↦ subst (λ b. is_open_in (show_all seats ++ Some (shown seat) ∷ []) n ≡ cond b true (is_open_in (show_all seats) n)) (sym h.0)
            (ap is_open_seat (get_or_push (show_all seats) (Some (shown seat)) None n (long ∙ sym h.1)) ∙ opened)
        | inr h ↦ subst (λ b. is_open_in (show_all seats ++ Some (shown seat) ∷ []) n ≡ cond b true (is_open_in (show_all seats) n)) (sym h.0)
            (ap is_open_seat (push_other (show_all seats) (Some (shown seat)) n (λ e. h.1 (e ∙ long))))
      ]

-- the list of a key of which a feed was made
pub told-leaves : (lists : Option (FeedKey → List Item)) (key : FeedKey) (leaves : List Item → Type 0) → ((l : FeedKey → List Item) → lists ≡ Some l → leaves (l key))
    → (list : List Item) → told_of lists key ≡ Some list → leaves list
told-leaves None key leaves given list is = absurd cc
told-leaves (Some l) key leaves given list is = (let same : l key ≡ list = cc in subst leaves same (given l refl))
