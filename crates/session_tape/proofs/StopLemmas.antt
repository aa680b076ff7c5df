-- Which malformed line is due, by the heads of the feeds.
use Rattle.std.proofs.Common.{◌≡◌, ℕ, ◌+◌, Bool, true, false, ℤ, pos, ◌≤ℤ◌, List, [], ◌∷◌, ◌++◌, map, length, Option, Some, None, refl, sym, ap, ◌∙◌, subst, arith, append_assoc, inl, inr}
use Rattle.std.specs.Prelude.{option_map, slice_get, find, unwrap_or}
use Rattle.std.specs.List.{All}
use Rattle.std.specs.Option.{option_or}
use Rattle.std.proofs.lemmas.Bool.{cases_Bool, true≢false}
use Rattle.std.proofs.lemmas.Int.{ints}
use Rattle.std.proofs.lemmas.Option.{none-some}
use Rattle.std.proofs.lemmas.List.Elements.{All-head, All-tail, All-weaker}
use Rattle.lean_fixed.specs.Moments.{first_moment}
use Rattle.lean_fixed.specs.Ranges.{IsWindow}
use Rattle.lean_fixed.specs.declared.resolution.Resolution.{Resolution}
use Rattle.lean_fixed.specs.declared.time.Window.{Window}
use Rattle.lean_io.specs.Told.{Files}
use Rattle.lean_items.specs.declared.arrival.Arrival.{Arrival}
use Rattle.lean_items.specs.declared.bad.Bad.{Bad as BadLine}
use Rattle.lean_items.specs.declared.feed_key.FeedKey.{FeedKey}
use Rattle.lean_items.specs.declared.item.Item.{Item}
use Rattle.lean_items.specs.declared.item.Item.TheVariants.{Bar, Coarse, Bad, Faulted, End}
use Rattle.lean_items.specs.Fits.{Rises}
use Rattle.lean_items.specs.Given.{end_of, IsRow}
use Rattle.lean_items.specs.Taken.{Feeds, AllFollow, Follows}
use Rattle.exchange_hours.specs.Entries.{Entries}
use Rattle.clock_feeds.specs.Lists.{blocked_in, refused_in}
use Rattle.clock_feeds.proofs.StandLemmas.{not_blocked, blocked_last}
use Rattle.frontier_sync.specs.Heads.{EndsFrom, stops}
use Rattle.frontier_sync.specs.Stands.{EndsBefore, AtHead, HeadsStand, AreBars}
use Rattle.frontier_sync.proofs.StandLemmas.{stood, stood-last}
use Rattle.session_tape.specs.Session.{Refusal, session_key}
use Rattle.session_tape.specs.Walked.{keys_of, AreFeeds}
use Rattle.session_tape.proofs.RowLemmas.{end_from, ended_open, before_row, given_by, no_coarse}
use Rattle.session_tape.proofs.ListLemmas.{named, is_list, are_bars, list_rises, one_more, behind_front}

-- a head that does not stop the walk is no failed read
no_fault : (head : Item) → stops head ≡ false → head ≡ Faulted → ⊥
no_fault head h is = true≢false (sym (ap stops is) ∙ h)

module _ (files : Files) (hours : Entries) (resolution : Resolution) (window : Window) (is_window : IsWindow window) (lists : FeedKey → List Item)
    (are : AreFeeds lists files hours window) where
  abbrev name : List ℕ → List ℕ × List Item
  name symbol = named files hours resolution window is_window lists are symbol

  abbrev list_of_key : List ℕ → List Item
  list_of_key symbol = lists (session_key resolution window symbol)

  low : pos 0 ≤ℤ pos (first_moment window)
  low = omega (arith, ints)

  -- a feed whose head does not stop the walk is not blocked before the head's end
  open_head : (symbol : List ℕ) (t : ℤ) (u : ℕ) (items : List Item) (head : Item) (s : AtHead t items head) → Follows (list_of_key symbol) items
      → stops head ≡ false → EndsFrom (pos (u + 1)) (end_of head) → blocked_in (list_of_key symbol) u ≡ None
  open_head symbol t u items (Bar bar) s follows still from =
      let (rest, is) = stood t items (Bar bar) (list_of_key symbol) s follows (no_fault (Bar bar) still) in
      let end = end_from bar.end.0 (u + 1) from in
      ap (λ list. blocked_in list u) is ∙ not_blocked u s.given rest bar (omega (arith, end))
  open_head symbol t u items (Coarse at row) s follows still from =
      let (rest, is) = stood t items (Coarse at row) (list_of_key symbol) s follows (no_fault (Coarse at row) still) in
      absurd (true≢false (no_coarse s.given (Coarse at row) rest (subst AreBars is (are_bars files hours resolution window is_window lists are symbol))))
  open_head symbol t u items (Bad bad) s follows still from = absurd (true≢false still)
  open_head symbol t u items Faulted s follows still from = absurd (true≢false still)
  open_head symbol t u items End s follows still from =
      let is = stood-last t items End (list_of_key symbol) (is_list files hours resolution window is_window lists are symbol) s follows (no_fault End still) refl in
      ap (λ list. blocked_in list u) is ∙ ended_open t s.given u s.before

  -- a feed whose head is a malformed line is blocked by it
  closed_head : (symbol : List ℕ) (t : ℕ) (items : List Item) (bad : BadLine) (s : AtHead (pos (t + 1)) items (Bad bad)) → Follows (list_of_key symbol) items
      → blocked_in (list_of_key symbol) t ≡ Some bad
  closed_head symbol t items bad s follows =
      let is = stood-last (pos (t + 1)) items (Bad bad) (list_of_key symbol) (is_list files hours resolution window is_window lists are symbol) s follows (λ e. is_fault e) refl in
      let rises = subst (Rises (pos (first_moment window))) is (list_rises files hours resolution window is_window lists are symbol) in
      let rows = All-weaker (λ item. EndsBefore (pos (t + 1)) (end_of item)) IsRow (λ item before. before_row (pos (t + 1)) item before) s.given s.before in
      ap (λ list. blocked_in list t) is ∙ blocked_last t s.given (Some bad) rows (given_by (pos (first_moment window)) s.given (Bad bad ∷ []) t low rises s.before)
    where
      is_fault : Bad bad ≡ Faulted → ⊥
      is_fault e = true≢false (sym (ap is_bad e))
        where
          is_bad : Item → Bool
          is_bad (Bad x) = false
          is_bad (Bar x) = true
          is_bad (Coarse x y) = true
          is_bad Faulted = true
          is_bad End = true

  abbrev Last : ℕ → Arrival → Type 0
  Last u a = EndsFrom (pos (u + 1)) (end_of a.item)

  abbrev Still : Arrival → Type 0
  Still a = stops a.item ≡ false

  -- where no head stops the walk, no malformed line is due before the heads' ends
  pub none_due : (t : ℤ) (u n : ℕ) (feeds : Feeds) (heads : List Arrival) (symbols : List (List ℕ)) → AllFollow lists feeds
      → HeadsStand t feeds n heads (keys_of resolution window symbols) → All Still heads → All (Last u) heads
      → refused_in (map name symbols) u ≡ None
  none_due t u n feeds [] [] follow stand still from = refl
  none_due t u n feeds [] (symbol ∷ symbols) follow stand still from = absurd stand
  none_due t u n feeds (a ∷ heads) [] follow stand still from = absurd stand
  none_due t u n feeds (a ∷ heads) (symbol ∷ symbols) follow (number, (items, at, head), stand) still from =
      let here = open_head symbol t u items a.item head (follow n (record { key = session_key resolution window symbol; items = items }) at)
      (All-head Still a heads still) (All-head (Last u) a heads from) in
      let rest = none_due t u (n + 1) feeds heads symbols follow stand (All-tail Still a heads still) (All-tail (Last u) a heads from) in
      ap (λ o. option_or (option_map (λ bad. let r : Refusal = (symbol, bad) in r) o) (refused_in (map name symbols) u)) here ∙ rest

  -- the first head that stops the walk, where it is a malformed line: that line is due
  pub first_due : (all front symbols : List (List ℕ)) (t n : ℕ) (feeds : Feeds) (heads : List Arrival) (a : Arrival) (bad : BadLine) → all ≡ front ++ symbols → length front ≡ n
      → AllFollow lists feeds → HeadsStand (pos (t + 1)) feeds n heads (keys_of resolution window symbols) → All (Last t) heads
      → find (λ h. stops h.item) heads ≡ Some a → a.item ≡ Bad bad
      → (symbol : List ℕ) × (slice_get all a.feed.0 ≡ Some symbol) × (refused_in (map name symbols) t ≡ Some (symbol, bad))
  first_due all front symbols t n feeds [] a bad whole count follow stand from found is = absurd (none-some a found)
  first_due all front [] t n feeds (h ∷ heads) a bad whole count follow stand from found is = absurd stand
  first_due all front (symbol ∷ symbols) t n feeds (h ∷ heads) a bad whole count follow (number, (items, at, head), stand) from found is =
      elim (cases_Bool (stops h.item)) [
        | inl stop ↦
            (let here : find (λ x. stops x.item) (h ∷ heads) ≡ Some h = rw stop refl in
            let same : h ≡ a = ap (λ (o : Option Arrival). unwrap_or o h) (sym here ∙ found) in
            let line : h.item ≡ Bad bad = ap (λ (x : Arrival). x.item) same ∙ is in
            let follows = follow n (record { key = session_key resolution window symbol; items = items }) at in
            let closed = closed_head symbol t items bad (subst (λ x. AtHead (pos (t + 1)) items x) line head) follows in
            let place : length front ≡ a.feed.0 = count ∙ sym number ∙ ap (λ (x : Arrival). x.feed.0) same in (
              symbol,
              subst (λ k. slice_get all k ≡ Some symbol) place (ap (λ xs. slice_get xs (length front)) whole ∙ behind_front front symbols symbol),
              ap (λ o. option_or (option_map (λ x. let r : Refusal = (symbol, x) in r) o) (refused_in (map name symbols) t)) closed,
            ))
        | inr other ↦
            (let later : find (λ x. stops x.item) (h ∷ heads) ≡ find (λ x. stops x.item) heads = rw other refl in
            let here = open_head symbol (pos (t + 1)) t items h.item head (follow n (record { key = session_key resolution window symbol; items = items }) at)
            other (All-head (Last t) h heads from) in
            let (name_of, is_named, due) = first_due all (front ++ symbol ∷ []) symbols t (n + 1) feeds heads a bad (whole ∙ sym (append_assoc front (symbol ∷ []) symbols))
            (one_more front symbol ∙ ap (λ k. k + 1) count) follow stand (All-tail (Last t) h heads from) (sym later ∙ found) is in
            (name_of, is_named, ap (λ o. option_or (option_map (λ x. let r : Refusal = (symbol, x) in r) o) (refused_in (map name symbols) t)) here ∙ due))
      ]
