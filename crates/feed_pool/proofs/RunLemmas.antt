-- What stands in a place of a pool, after an item was taken, and after a hand was given back.
use Rattle.std.proofs.Common.{◌≡◌, ℕ, ◌+◌, ◌<◌, ◌≤◌, Bool, true, false, List, [], ◌∷◌, ◌++◌, get_or, set, length, Option, Some, None, inl, inr, refl, sym, ap, ◌∙◌, subst, append_assoc, arith}
use Rattle.std.specs.Prelude.{◌^◌, ◌-◌, min, not, Ok}
use Rattle.std.specs.List.{Contains}
use Rattle.std.proofs.Math.Nat.{min-le_left, min-le_right, le-min}
use Rattle.std.proofs.lemmas.Bool.{cases_lt, false≢true}
use Rattle.std.proofs.lemmas.List.{get_or_past}
use Rattle.std.proofs.lemmas.List.Elements.{All-push, All-nil, Contains-push_cases}
use Rattle.lean_fixed.specs.declared.time.Window.{Window}
use Rattle.lean_fixed.specs.Counts.{Rose, raised}
use Rattle.lean_io.specs.Told.{Files}
use Rattle.lean_items.specs.declared.feed_key.FeedKey.{FeedKey}
use Rattle.lean_items.specs.declared.item.Item.{Item}
use Rattle.lean_items.specs.declared.item.Item.TheVariants.{Bar, Coarse, Bad, Faulted, End}
use Rattle.lean_items.specs.Given.{is_last, IsRow, IsNext, GivesItem, OnFaulted}
use Rattle.lean_items.specs.Taken.{Taken, Feeds, Follows, AllFollow, FaultsRose, added_to, taken_of, more}
use Rattle.exchange_hours.specs.Entries.{Entries}
use Rattle.feed_pool.specs.Lists.{list_of, lists_of}
use Rattle.feed_pool.proofs.EachLemmas.{each-added, each-taken, each-set, each-popped}
use Rattle.feed_pool.specs.Running.{IsRunning, Standing, Stands, Gave, counted, is_running, is_open_at}

-- a count that rose from 0 is at least 1
at_least_one : (n : ℕ) → Rose 0 n → 1 ≤ n
at_least_one n rose = (let h : min 1 (2 ^ 64 - 1) ≤ n = rose in omega (arith, h))

-- a hand that met a fault was given back
pub rose-by : (before now more : ℕ) → before ≤ now → Rose 0 more → Rose before (raised now more)
rose-by before now more since rose =
    let one = at_least_one more rose in
    let low : min (before + 1) (2 ^ 64 - 1) ≤ now + more = omega (arith, min-le_left (before + 1) (2 ^ 64 - 1), one, since) in
    le-min low (min-le_right (before + 1) (2 ^ 64 - 1))

-- a count that rose from some number rose from 0
rose-from_none : (before now : ℕ) → Rose before now → Rose 0 now
rose-from_none before now rose = omega (arith, rose)

-- a failed read is among the taken items only if it was, or if it was taken now
was_faulted : (items : List Item) (item : Item) → (item ≡ Faulted → ⊥) → Contains (items ++ item ∷ []) Faulted → Contains items Faulted
was_faulted items item other has = elim (Contains-push_cases items item Faulted has) [ inl h ↦ h | inr h ↦ absurd (other h) ]

none_in : Contains [] Faulted → ⊥
none_in has = omega (arith, has.1)

-- a place that is open stands in the list
pub is-within : {G : Type 0} (ended : G → Bool) (feeds : List (Option G)) (n : ℕ) → is_open_at ended feeds n ≡ true → n < length feeds
is-within ended feeds n there = elim (cases_lt n (length feeds)) [
  | inl h ↦ h
  | inr h ↦ absurd (false≢true (ap (is_running ended) (sym (get_or_past feeds n None h)) ∙ there))
]

-- the list of a key, where the files are told
pub told-list : (files : Option Files) (hours : Entries) (window : Window) (key : FeedKey) (leaves : List Item → Type 0)
    → ((f : Files) → files ≡ Some f → leaves (list_of f hours window key))
    → (l : FeedKey → List Item) → lists_of files hours window ≡ Some l → leaves (l key)
told-list None hours window key leaves told l is = absurd cc
told-list (Some f) hours window key leaves told l is =
    let same : list_of f hours window ≡ l = cc in
    subst (λ (m : FeedKey → List Item). leaves (m key)) same (told f refl)

module _ {G : Type 0} (leaves : G → List Item → Type 0) (ended : G → Bool) (faults : G → ℕ) where
  module _ (lists : Option (FeedKey → List Item)) (was is : G) (taken : Taken) (there : ended was ≡ false) (running : IsRunning leaves ended faults lists was taken) where
    -- a row was taken
    row-taken : (item : Item) → IsRow item → (item ≡ Faulted → ⊥) → ended is ≡ false → faults was ≤ faults is
        → ((list : List Item) → leaves was list → IsNext (leaves is) list item)
        → IsRunning leaves ended faults lists is (more (item ∷ []) taken)
    row-taken item row other still grows gives =
        let left : (l : FeedKey → List Item) → lists ≡ Some l → (rest : List Item) × leaves is rest × (l taken.key ≡ (taken.items ++ item ∷ []) ++ rest)
        = λ l told. (let had = running.left l told there in
        let next = gives had.0 had.1 in
        (next.0, next.2, had.2 ∙ ap (λ x. taken.items ++ x) next.1 ∙ sym (append_assoc taken.items (item ∷ []) next.0))) in
        record {
          follows = λ l told. inl ((left l told).0, (left l told).2);
          left = λ l told e. ((left l told).0, (left l told).1, (left l told).2);
          rows = λ e. All-push IsRow taken.items item (running.rows there) row;
          rose = λ has. omega (arith, running.rose (was_faulted taken.items item other has), grows);
        }

    -- a last item was taken that stands in the list
    last-taken : (item : Item) → (item ≡ Faulted → ⊥) → ended is ≡ true → faults was ≤ faults is
        → ((list : List Item) → leaves was list → list ≡ item ∷ [])
        → IsRunning leaves ended faults lists is (more (item ∷ []) taken)
    last-taken item other over grows gives = record {
      follows = λ l told. (let had = running.left l told there in
          inl ([], had.2 ∙ ap (λ x. taken.items ++ x) (gives had.0 had.1) ∙ sym (append_assoc taken.items (item ∷ []) [])));
      left = λ l told e. absurd (false≢true (sym e ∙ over));
      rows = λ e. absurd (false≢true (sym e ∙ over));
      rose = λ has. omega (arith, running.rose (was_faulted taken.items item other has), grows);
    }

    -- a read failed in place of the next item
    fault-taken : ended is ≡ true → Rose (faults was) (faults is) → IsRunning leaves ended faults lists is (more (Faulted ∷ []) taken)
    fault-taken over rose = record {
      follows = λ l told. (let had = running.left l told there in inr (taken.items, had.0, refl, had.2, running.rows there));
      left = λ l told e. absurd (false≢true (sym e ∙ over));
      rows = λ e. absurd (false≢true (sym e ∙ over));
      rose = λ has. rose-from_none (faults was) (faults is) rose;
    }

    item-taken : (item : Item) → ended is ≡ is_last item → faults was ≤ faults is → OnFaulted item (Rose (faults was) (faults is))
        → ((list : List Item) → leaves was list → GivesItem (leaves is) list item)
        → IsRunning leaves ended faults lists is (more (item ∷ []) taken)
    item-taken (Bar bar) ends grows rose gives = row-taken (Bar bar) refl (λ e. cc) ends grows gives
    item-taken (Coarse at row) ends grows rose gives = row-taken (Coarse at row) refl (λ e. cc) ends grows gives
    item-taken (Bad bad) ends grows rose gives = last-taken (Bad bad) (λ e. cc) ends grows gives
    item-taken Faulted ends grows rose gives = fault-taken ends rose
    item-taken End ends grows rose gives = last-taken End (λ e. cc) ends grows gives

  not_ended : (over : Bool) → not over ≡ true → over ≡ false
  not_ended true e = sym e
  not_ended false e = refl

  follows_at : (lists : Option (FeedKey → List Item)) (before now : ℕ) (x : Option G) (taken : Taken) → Standing leaves ended faults lists before now x taken
      → (l : FeedKey → List Item) → lists ≡ Some l → Follows (l taken.key) taken.items
  follows_at lists before now None taken settled l told = settled.follows l told
  follows_at lists before now (Some feed) taken running l told = running.follows l told

  module _ (lists : Option (FeedKey → List Item)) (before now : ℕ) where
    -- what stands in a place gave an item
    stand-taken : (room : G → ℕ) (old new : Option G) (item : Item) (taken : Taken) → is_running ended old ≡ true → Gave leaves ended faults room old new item
        → Standing leaves ended faults lists before now old taken → Standing leaves ended faults lists before now new (more (item ∷ []) taken)
    stand-taken room old new item taken there gave standing =
        let open_was : ended gave.was ≡ false = not_ended (ended gave.was) (subst (λ x. is_running ended x ≡ true) gave.there there) in
        let running : IsRunning leaves ended faults lists gave.was taken = subst (λ x. Standing leaves ended faults lists before now x taken) gave.there standing in
        subst (λ x. Standing leaves ended faults lists before now x (more (item ∷ []) taken)) (sym gave.still)
        (item-taken lists gave.was gave.is taken open_was running item gave.ends gave.grows gave.rose gave.gives)

    module _ (later : ℕ) (grows : now ≤ later) where
      -- a count that grows stays risen
      pub stand-later : (x : Option G) (taken : Taken) → Standing leaves ended faults lists before now x taken → Standing leaves ended faults lists before later x taken
      stand-later None taken settled = record { follows = settled.follows; rose = λ has. omega (arith, settled.rose has, grows) }
      stand-later (Some feed) taken running = running

      -- the hand of what stood in a place was given back
      stand-back : before ≤ now → (x : Option G) (taken : Taken) → later ≡ counted faults x now
          → Standing leaves ended faults lists before now x taken → Standing leaves ended faults lists before later None taken
      stand-back since None taken count settled = record { follows = settled.follows; rose = λ has. omega (arith, settled.rose has, grows) }
      stand-back since (Some feed) taken count running = record {
        follows = running.follows;
        rose = λ has. subst (λ n. Rose before n) (sym count) (rose-by before now (faults feed) since (running.rose has));
      }

      -- a feed was removed
      pub stands-removed : (feeds : List (Option G)) (taken : Feeds) (k : ℕ) → k < length feeds → later ≡ counted faults (get_or feeds k None) now
          → Stands leaves ended faults lists before now feeds taken → Stands leaves ended faults lists before later (set feeds k None) taken
      stands-removed feeds taken k within count stands = record {
        since = omega (arith, stands.since, grows);
        each = each-set (Standing leaves ended faults lists before now) (Standing leaves ended faults lists before later) stand-later feeds taken k None within
            (λ t standing. stand-back stands.since (get_or feeds k None) t count standing) stands.each;
      }

      -- the last feed was let go
      pub stands-popped : (feeds : List (Option G)) (x : Option G) (taken : Feeds) → later ≡ counted faults x now
          → Stands leaves ended faults lists before now (feeds ++ x ∷ []) taken → Stands leaves ended faults lists before later feeds taken
      stands-popped feeds x taken count stands = record {
        since = omega (arith, stands.since, grows);
        each = each-popped (Standing leaves ended faults lists before now) (Standing leaves ended faults lists before later) stand-later feeds x taken
            (λ t standing. stand-back stands.since x t count standing) stands.each;
      }

    -- one more item was taken of a feed
    pub stands-taken : (room : G → ℕ) (feeds : List (Option G)) (taken : Feeds) (k : ℕ) (new : Option G) (item : Item) → is_open_at ended feeds k ≡ true
        → Gave leaves ended faults room (get_or feeds k None) new item
        → Stands leaves ended faults lists before now feeds taken → Stands leaves ended faults lists before now (set feeds k new) (taken_of taken k item)
    stands-taken room feeds taken k new item there gave stands = record {
      since = stands.since;
      each = each-taken (Standing leaves ended faults lists before now) (Standing leaves ended faults lists before now) (λ x t standing. standing) feeds taken k new item
          (is-within ended feeds k there) (λ t standing. stand-taken room (get_or feeds k None) new item t there gave standing) stands.each;
    }

    -- a feed was added whose list is that of its key
    pub stands-added : (feeds : List (Option G)) (taken : Feeds) (k : ℕ) (feed : G) (key : FeedKey) → length feeds ≡ k → ended feed ≡ false
        → ((l : FeedKey → List Item) → lists ≡ Some l → leaves feed (l key))
        → Stands leaves ended faults lists before now feeds taken
        → Stands leaves ended faults lists before now (feeds ++ Some feed ∷ []) (added_to taken key (Ok (record { 0 = k })))
    stands-added feeds taken k feed key count there told stands = record {
      since = stands.since;
      each = each-added (Standing leaves ended faults lists before now) (Standing leaves ended faults lists before now) (λ x t standing. standing) feeds taken k (Some feed) key count
          (record {
            follows = λ l e. inl (l key, refl);
            left = λ l e open_now. (l key, told l e, refl);
            rows = λ e. All-nil IsRow;
            rose = λ has. absurd (none_in has);
          }) stands.each;
    }

    -- what was taken follows the lists
    pub all-follow : (feeds : List (Option G)) (taken : Feeds) → Stands leaves ended faults lists before now feeds taken
        → (l : FeedKey → List Item) → lists ≡ Some l → AllFollow l taken
    all-follow feeds taken stands l told n t is = follows_at lists before now (get_or feeds n None) t (stands.each n t is) l told

    -- all hands were given back
    pub faults-rose : (feeds : List (Option G)) (taken : Feeds) → length feeds ≡ 0 → Stands leaves ended faults lists before now feeds taken → FaultsRose taken before now
    faults-rose [] taken none stands n t is has = (stands.each n t is).rose has
    faults-rose (x ∷ feeds) taken none stands n t is has = absurd (omega (arith, none))
