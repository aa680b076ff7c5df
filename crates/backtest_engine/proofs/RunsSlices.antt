-- What ends at a moment in the lists of the active feeds is what each of them has then.
use Rattle.std.proofs.Common.{◌≡◌, ℕ, ◌+◌, ◌<◌, ◌≤◌, List, [], ◌∷◌, ◌++◌, Bool, true, false, refl, ap, sym, subst, ◌∙◌, arith, append-nil}
use Rattle.std.specs.Prelude.{ℤ, pos, ◌==◌, None, cond, if◌then◌else◌, map}
use Rattle.std.specs.List.{AllByRecursion as Each, filter, filter_map, cons_option}
use Rattle.std.proofs.lemmas.Bool.{true≢false}
use Rattle.std.proofs.lemmas.List.{append_assoc}
use Rattle.std.proofs.lemmas.List.Elements.{All-head, All-tail, filter_map-append}
use Rattle.lean_items.specs.declared.arrival.Arrival.{Arrival}
use Rattle.lean_items.specs.declared.feed_key.FeedKey.{FeedKey}
use Rattle.lean_items.specs.declared.item.Item.{Item}
use Rattle.lean_items.specs.declared.item.Item.TheVariants.{Bar, Coarse, Bad, Faulted, End}
use Rattle.frontier_sync.specs.Heads.{arrival}
use Rattle.frontier_sync.specs.Slices.{ends_at}
use Rattle.frontier_sync.specs.Stands.{is_coarse, AreBars}
use Rattle.clock_run.specs.Known.{Known}
use Rattle.clock_run.specs.States as clock
use Rattle.clock_run.specs.Orderly.{number_of, NumbersRise}
use Rattle.clock_run.proofs.EachLemmas.{each-append}
use Rattle.backtest_core.specs.Standing.{followed_of, feed_of}
use Rattle.backtest_core.specs.Inside.{bar_in, bar_for, bars_in, row_in, rows_in}
use Rattle.backtest_core.specs.Slices.{IsSoundRow, AreInOrder, FeedsRise}
use Rattle.backtest_engine.specs.Lists.{slice_at}
use Rattle.backtest_engine.specs.Meaning.{Subscription}
use Rattle.backtest_engine.specs.Algorithms.{subscribed}
use Rattle.backtest_engine.specs.Tells.{bars_ending, rows_ending}
use Rattle.backtest_engine.specs.Turns.{numbered}

-- what some items of a feed are ls arrivals
abbrev pub given : ℕ → List Item → List Arrival
given feed items = map (arrival (record { 0 = feed })) items

same-number : (n : ℕ) → (n == n) ≡ true
same-number n = grind arith

other-number : (m n : ℕ) → m < n → (m == n) ≡ false
other-number m n low = grind arith

bars-own : (n : ℕ) (items : List Item) → bars_in (given n items) n ≡ filter_map bar_in items
bars-own n [] = refl
bars-own n (x ∷ items) = λ j. cons_option (if same-number n j then bar_in x else None) (bars-own n items j)

bars-other : (m n : ℕ) (items : List Item) → (m == n) ≡ false → bars_in (given m items) n ≡ []
bars-other m n [] other = refl
bars-other m n (x ∷ items) other = λ j. cons_option (if other j then bar_in x else None) (bars-other m n items other j)

rows-of : (n : ℕ) (items : List Item) → rows_in (given n items) ≡ filter_map row_in items
rows-of n [] = refl
rows-of n (x ∷ items) = ap (λ rows. cons_option (row_in x) rows) (rows-of n items)

not-row : (x : Item) → is_coarse x ≡ false → row_in x ≡ None
not-row (Bar bar) bars = refl
not-row (Coarse at row) bars = absurd (true≢false bars)
not-row (Bad bad) bars = refl
not-row Faulted bars = refl
not-row End bars = refl

-- no row of the coarse universe ends in a list of bars
no-rows : (t : ℤ) (items : List Item) → AreBars items → filter_map row_in (filter (ends_at t) items) ≡ []
no-rows t [] bars = refl
no-rows t (x ∷ items) bars =
    by (ends_at t x) (no-rows t items (All-tail (λ x. is_coarse x ≡ false) x items bars))
  where
    by : (b : Bool) → filter_map row_in (filter (ends_at t) items) ≡ [] → filter_map row_in (cond b (x ∷ filter (ends_at t) items) (filter (ends_at t) items)) ≡ []
    by true none = ap (λ o. cons_option o (filter_map row_in (filter (ends_at t) items))) (not-row x (All-head (λ x. is_coarse x ≡ false) x items bars)) ∙ none
    by false none = none

each-given : (n : ℕ) (items : List Item) → Each IsSoundRow items → Each (λ a. IsSoundRow a.item) (given n items)
each-given n [] sound = tt
each-given n (x ∷ items) sound = (sound.0, each-given n items sound.1)

-- all numbers of a feed are its own
each-number : (P : ℕ → Type 0) (n : ℕ) (items : List Item) → P n → Each (λ a. P a.feed.0) (given n items)
each-number P n [] is = tt
each-number P n (x ∷ items) is = (is, each-number P n items is)

order-given : (n : ℕ) (items : List Item) → AreInOrder (given n items)
order-given n [] = tt
order-given n (x ∷ items) = (each-number (λ k. n ≤ k) n items (omega arith), order-given n items)

each-both : (ls bs : List Arrival) (n : ℕ) → Each (λ a. a.feed.0 ≤ n) ls → Each (λ b. n ≤ b.feed.0) bs → AreInOrder ls → AreInOrder bs → AreInOrder (ls ++ bs)
each-both [] bs n low high left-order right-order = right-order
each-both (a ∷ ls) bs n low high left-order right-order =
    (each-append (λ b. a.feed.0 ≤ b.feed.0) ls bs left-order.0 (weaker bs high), each-both ls bs n low.1 high left-order.1 right-order)
  where
    weaker : (bs : List Arrival) → Each (λ b. n ≤ b.feed.0) bs → Each (λ b. a.feed.0 ≤ b.feed.0) bs
    weaker [] high = tt
    weaker (b ∷ bs) high = (let l = low.0 in let h = high.0 in omega (arith, l, h), weaker bs high.1)

module _ (lists : FeedKey → List Item) where
  pub slice-append : (t : ℤ) (ls bs : List Subscription) → slice_at lists t (ls ++ bs) ≡ slice_at lists t ls ++ slice_at lists t bs
  slice-append t [] bs = refl
  slice-append t (a ∷ ls) bs =
      ap (λ more. given a.feed (filter (ends_at t) (lists a.key)) ++ more) (slice-append t ls bs)
      ∙ sym (append_assoc (given a.feed (filter (ends_at t) (lists a.key))) (slice_at lists t ls) (slice_at lists t bs))

  -- the securities of a state, ls feeds
  module _ (t : ℕ) (known : Known) where
    abbrev pub slice : List clock.Subscription → List Arrival
    slice xs = slice_at lists (pos t) (map subscribed (map (followed_of known) xs))

    abbrev here : clock.Subscription → List Arrival
    here x = given (number_of x) (filter (ends_at (pos t)) (lists x.key))

    bars-below : (n from until : ℕ) (xs : List clock.Subscription) → n < from → NumbersRise from until xs → bars_in (slice xs) n ≡ []
    bars-below n from until [] low rise = refl
    bars-below n from until (x ∷ xs) low rise =
        let at = rise.0 in
        let above : (number_of x == n) ≡ false = apart n (number_of x) (omega (arith, low, at)) in
        filter_map-append (bar_for n) (here x) (slice xs)
        ∙ (ap (λ bars. bars ++ bars_in (slice xs) n) (bars-other (number_of x) n (filter (ends_at (pos t)) (lists x.key)) above)
        ∙ bars-below n (number_of x + 1) until xs (omega (arith, low, at)) rise.1)
      where
        apart : (m k : ℕ) → m < k → (k == m) ≡ false
        apart m k low = grind arith

    bars-behind : (front : List Arrival) (from until : ℕ) (xs : List clock.Subscription)
        → ((n : ℕ) → from ≤ n → bars_in front n ≡ []) → NumbersRise from until xs
        → Each (λ x. bars_in (front ++ slice xs) (number_of x) ≡ bars_ending t (lists x.key)) xs
    bars-behind front from until [] none rise = tt
    bars-behind front from until (x ∷ xs) none rise =
        let n = number_of x in
        let at = rise.0 in
        let items = filter (ends_at (pos t)) (lists x.key) in
        let first : bars_in (front ++ (here x ++ slice xs)) n ≡ bars_ending t (lists x.key) =
        filter_map-append (bar_for n) front (here x ++ slice xs)
        ∙ (ap (λ bars. bars ++ bars_in (here x ++ slice xs) n) (none n at)
        ∙ (filter_map-append (bar_for n) (here x) (slice xs)
        ∙ (ap (λ bars. bars_in (here x) n ++ bars) (bars-below n (n + 1) until xs (omega arith) rise.1)
        ∙ (append-nil (bars_in (here x) n) ∙ bars-own n items)))) in
        let none_later : (k : ℕ) → n + 1 ≤ k → bars_in (front ++ here x) k ≡ [] =
        λ k high.
        filter_map-append (bar_for k) front (here x)
        ∙ (ap (λ bars. bars ++ bars_in (here x) k) (none k (omega (arith, at, high)))
        ∙ bars-other n k items (other-number n k (omega (arith, high)))) in (
          first,
          subst (λ all. Each (λ x. bars_in all (number_of x) ≡ bars_ending t (lists x.key)) xs) (append_assoc front (here x) (slice xs))
              (bars-behind (front ++ here x) (n + 1) until xs none_later rise.1),
        )

    no-rows_in : (xs : List clock.Subscription) → Each (λ x. AreBars (lists x.key)) xs → rows_in (slice xs) ≡ []
    no-rows_in [] bars = refl
    no-rows_in (x ∷ xs) bars =
        let items = filter (ends_at (pos t)) (lists x.key) in
        filter_map-append (λ (a : Arrival). row_in a.item) (here x) (slice xs)
        ∙ (ap (λ rows. rows ++ rows_in (slice xs)) (rows-of (number_of x) items ∙ no-rows (pos t) (lists x.key) bars.0)
        ∙ no-rows_in xs bars.1)

    sound-rows : ((key : FeedKey) → Each IsSoundRow (filter (ends_at (pos t)) (lists key))) → (xs : List clock.Subscription)
        → Each (λ a. IsSoundRow a.item) (slice xs)
    sound-rows sound [] = tt
    sound-rows sound (x ∷ xs) =
        each-append (λ a. IsSoundRow a.item) (here x) (slice xs) (each-given (number_of x) (filter (ends_at (pos t)) (lists x.key)) (sound x.key))
        (sound-rows sound xs)

    from-on : (from until : ℕ) (xs : List clock.Subscription) → NumbersRise from until xs → (n : ℕ) → n ≤ from → Each (λ a. n ≤ a.feed.0) (slice xs)
    from-on from until [] rise n low = tt
    from-on from until (x ∷ xs) rise n low =
        let at = rise.0 in
        each-append (λ a. n ≤ a.feed.0) (here x) (slice xs)
        (each-number (λ k. n ≤ k) (number_of x) (filter (ends_at (pos t)) (lists x.key)) (omega (arith, at, low)))
        (from-on (number_of x + 1) until xs rise.1 n (omega (arith, at, low)))

    in-order : (from until : ℕ) (xs : List clock.Subscription) → NumbersRise from until xs → AreInOrder (slice xs)
    in-order from until [] rise = tt
    in-order from until (x ∷ xs) rise =
        let items = filter (ends_at (pos t)) (lists x.key) in
        each-both (here x) (slice xs) (number_of x) (each-number (λ k. k ≤ number_of x) (number_of x) items (omega arith))
        (from-on (number_of x + 1) until xs rise.1 (number_of x) (omega arith)) (order-given (number_of x) items)
        (in-order (number_of x + 1) until xs rise.1)

    feeds-from : (from until : ℕ) (xs : List clock.Subscription) → NumbersRise from until xs → (n : ℕ) → n ≤ from
        → Each (λ f. n ≤ feed_of f) (map (followed_of known) xs)
    feeds-from from until [] rise n low = tt
    feeds-from from until (x ∷ xs) rise n low =
        let at = rise.0 in
        (omega (arith, at, low), feeds-from (number_of x + 1) until xs rise.1 n (omega (arith, at, low)))

    pub feeds-rise : (from until : ℕ) (xs : List clock.Subscription) → NumbersRise from until xs → FeedsRise (map (followed_of known) xs)
    feeds-rise from until [] rise = tt
    feeds-rise from until (x ∷ xs) rise =
        (feeds-from (number_of x + 1) until xs rise.1 (number_of x) (omega arith), feeds-rise (number_of x + 1) until xs rise.1)

    -- behind the coarse feed, where there is one
    pub record Slice (xs : List clock.Subscription) (all : List Arrival) : Type 0 where
      pub bars : Each (λ x. bars_in all (number_of x) ≡ bars_ending t (lists x.key)) xs
      pub rows : Each (λ a. IsSoundRow a.item) all
      pub order : AreInOrder all

    pub slice-none : (until : ℕ) (xs : List clock.Subscription) → ((key : FeedKey) → Each IsSoundRow (filter (ends_at (pos t)) (lists key)))
        → NumbersRise 0 until xs → Slice xs (slice xs)
    slice-none until xs sound rise = record {
      bars = bars-behind [] 0 until xs (λ n low. refl) rise;
      rows = sound-rows sound xs;
      order = in-order 0 until xs rise;
    }

    abbrev pub first : FeedKey → List Arrival
    first key = slice_at lists (pos t) (numbered 0 (key ∷ []))

    pub slice-one : (key : FeedKey) (until : ℕ) (xs : List clock.Subscription) → ((key : FeedKey) → Each IsSoundRow (filter (ends_at (pos t)) (lists key)))
        → NumbersRise 1 until xs → Slice xs (first key ++ slice xs)
    slice-one key until xs sound rise =
        let items = filter (ends_at (pos t)) (lists key) in
        let first_is : first key ≡ given 0 items = append-nil (given 0 items) in
        subst (λ front. Slice xs (front ++ slice xs)) (sym first_is)
        (record {
          bars = bars-behind (given 0 items) 1 until xs (λ n low. bars-other 0 n items (other-number 0 n (omega (arith, low)))) rise;
          rows = each-append (λ a. IsSoundRow a.item) (given 0 items) (slice xs) (each-given 0 items (sound key)) (sound-rows sound xs);
          order = each-both (given 0 items) (slice xs) 0 (each-number (λ k. k ≤ 0) 0 items (omega arith))
              (from-on 1 until xs rise 0 (omega arith)) (order-given 0 items) (in-order 1 until xs rise);
        })

    pub rows-one : (key : FeedKey) (xs : List clock.Subscription) → Each (λ x. AreBars (lists x.key)) xs
        → rows_in (first key ++ slice xs) ≡ rows_ending t (lists key)
    rows-one key xs bars =
        let items = filter (ends_at (pos t)) (lists key) in
        filter_map-append (λ (a : Arrival). row_in a.item) (first key) (slice xs)
        ∙ (ap (λ rows. rows_in (first key) ++ rows) (no-rows_in xs bars)
        ∙ (append-nil (rows_in (first key)) ∙ (ap (λ ls. rows_in ls) (append-nil (given 0 items)) ∙ rows-of 0 items)))
