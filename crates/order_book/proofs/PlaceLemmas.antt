-- The places of orders that may be live, and those that are due.
use Rattle.std.proofs.Common.{◌≡◌, ◌≢◌, ℕ, zero, suc, ◌+◌, ◌<◌, ◌≤◌, ◌==◌, Bool, true, false, cond, ◌&&◌, List, [], ◌∷◌, ◌++◌, length, set, get_or, take, filter, Option, Some, None, Result, Ok, Err, refl, sym, ap, subst, ◌∙◌, ◌⊎◌, inl, inr, append_assoc, arith, true≢false}
use Rattle.std.specs.Prelude.{is_some, not, ◌||◌, nat_eq, unwrap_or, if◌then◌else◌, Contains, OnOk, OnErr}
use Rattle.std.specs.List.{slice_get, All, dedup, dedup_from}
use Rattle.std.specs.List.Sorted.{IsPermutation, IsNonDecreasingBy}
use Rattle.std.specs.Cmp.Lexicographic.{bytes_decides, nat_list_eq_equiv}
use Rattle.std.specs.Map.{lookup, set_value}
use Rattle.std.specs.Option.{option_map_or}
use Rattle.std.proofs.lemmas.Bool.Decides.{nat_tests}
use Rattle.std.proofs.lemmas.List.{length-set, length_push, take_more}
use Rattle.std.proofs.lemmas.List.Elements.{All-nil, All-cons, All-head, All-tail, All-append, All-contains, Contains-append_left, Contains-append_right, Contains-push, filter-append}
use Rattle.std.proofs.lemmas.List.Filters.{All-dedup}
use Rattle.std.proofs.lemmas.List.Sorted.{All-permutation, Contains-permutation}
use Rattle.std.proofs.lemmas.Option.{none-some, same_Some, slice_get_within}
use Rattle.lean_orders.specs.declared.desk.PriceBar.{PriceBar}
use Rattle.lean_orders.specs.declared.order.Order.{Order}
use Rattle.portfolio.specs.Symbols.{same_symbol}
use Rattle.exchange_hours.specs.Entries.{Entries}
use Rattle.trade_costs.specs.declared.costs.Costs.{Costs}
use Rattle.portfolio.specs.Account.{Account, held}
use Rattle.clock_book.specs.Books.{is_live}
use Rattle.clock_book.specs.Matches.{is_set_off, fill_on}
use Rattle.order_book.specs.Due.{AreRanged, changes, changes_at, is_due, Grows, Finds, FindsAt}
use Rattle.order_book.specs.Resting.{AreKept, Name, RestsWhereLive, is_live_at}
use Rattle.order_book.specs.Waiting.{places_of, Waits}

-- ---- lists

same_is : (a b : List ℕ) → same_symbol a b ≡ true → a ≡ b
same_is a b h = (bytes_decides a b).0 h

pub push_cases : {X : Type 0} (xs : List X) (y : X) (k : ℕ) (x : X) → slice_get (xs ++ y ∷ []) k ≡ Some x → (slice_get xs k ≡ Some x) ⊎ ((k ≡ length xs) × (y ≡ x))
push_cases [] y zero x e = inr (refl, same_Some y x e)
push_cases [] y (suc k) x e = absurd (none-some x e)
push_cases (z ∷ xs) y zero x e = inl e
push_cases (z ∷ xs) y (suc k) x e =
    elim (push_cases xs y k x e) [
      | inl h ↦ inl h
      | inr (at, is) ↦ inr (omega (arith, at), is)
    ]

pub set_cases : {X : Type 0} (xs : List X) (j : ℕ) (y : X) (k : ℕ) (x : X) → slice_get (set xs j y) k ≡ Some x → (slice_get xs k ≡ Some x) ⊎ ((k ≡ j) × (y ≡ x))
set_cases [] j y k x e = absurd (none-some x e)
set_cases (z ∷ xs) zero y zero x e = inr (refl, same_Some y x e)
set_cases (z ∷ xs) zero y (suc k) x e = inl e
set_cases (z ∷ xs) (suc j) y zero x e = inl e
set_cases (z ∷ xs) (suc j) y (suc k) x e =
    elim (set_cases xs j y k x e) [
      | inl h ↦ inl h
      | inr (at, is) ↦ inr (omega (arith, at), is)
    ]

pub first_cases : (p : ℕ) (ps : List ℕ) (k : ℕ) → Contains (p ∷ ps) k → (p ≡ k) ⊎ Contains ps k
first_cases p ps k h = by h.0 h.1 h.2
  where
    by : (i : ℕ) → i < length (p ∷ ps) → get_or (p ∷ ps) i k ≡ k → (p ≡ k) ⊎ Contains ps k
    by zero l e = inl e
    by (suc i) l e = inr (i, omega (arith, l), e)

pub in_first : (p : ℕ) (ps : List ℕ) → Contains (p ∷ ps) p
in_first p ps = (0, omega arith, refl)

pub in_rest : (p : ℕ) (ps : List ℕ) (k : ℕ) → Contains ps k → Contains (p ∷ ps) k
in_rest p ps k h = (suc h.0, omega (arith, h.1), h.2)

pub not_in_none : (k : ℕ) → Contains [] k → ⊥
not_in_none k h = omega (arith, h.1)

pub in_filter : (test : ℕ → Bool) (ps : List ℕ) (k : ℕ) → test k ≡ true → Contains ps k → Contains (filter test ps) k
in_filter test [] k meets h = absurd (not_in_none k h)
in_filter test (p ∷ ps) k meets h = by (test p) refl (in_filter test ps k meets)
  where
    by : (b : Bool) → test p ≡ b → (Contains ps k → Contains (filter test ps) k) → Contains (cond b (p ∷ filter test ps) (filter test ps)) k
    by true e later =
        elim (first_cases p ps k h) [
          | inl is ↦ subst (Contains (p ∷ filter test ps)) is (in_first p (filter test ps))
          | inr there ↦ in_rest p (filter test ps) k (later there)
        ]
    by false e later =
        elim (first_cases p ps k h) [
          | inl is ↦ absurd (true≢false (sym meets ∙ ap test (sym is) ∙ e))
          | inr there ↦ later there
        ]

-- ---- the places of each symbol

pub waits_more : (old new : List (List ℕ × List ℕ)) (orders : List Order) → ((s : List ℕ) (k : ℕ) → Contains (places_of old s) k → Contains (places_of new s) k)
    → Waits old orders → Waits new orders
waits_more old new orders more waits = record { named = λ k order at lives. more order.symbol k (waits.named k order at lives) }

pub waits_push : (entries : List (List ℕ × List ℕ)) (orders : List Order) (o : Order) → Waits entries orders
    → (is_live o.state ≡ true → Contains (places_of entries o.symbol) (length orders)) → Waits entries (orders ++ o ∷ [])
waits_push entries orders o waits place = record {
  named = λ k order at lives.
      elim (push_cases orders o k order at) [
        | inl old ↦ waits.named k order old lives
        | inr (end, is) ↦
            subst (Contains (places_of entries order.symbol)) (sym end)
            (subst (λ (x : Order). Contains (places_of entries x.symbol) (length orders)) is (place (ap (λ (x : Order). is_live x.state) is ∙ lives)))
      ];
}

pub waits_set : (entries : List (List ℕ × List ℕ)) (orders : List Order) (j : ℕ) (old o : Order) → slice_get orders j ≡ Some old → o.symbol ≡ old.symbol
    → (is_live o.state ≡ true → is_live old.state ≡ true) → Waits entries orders → Waits entries (set orders j o)
waits_set entries orders j old o there same lived waits = record {
  named = λ k order at lives.
      elim (set_cases orders j o k order at) [
        | inl was ↦ waits.named k order was lives
        | inr (here, is) ↦
            subst (Contains (places_of entries order.symbol)) (sym here)
            (subst (λ s. Contains (places_of entries s) j) (sym same ∙ ap (λ (x : Order). x.symbol) is)
            (waits.named j old there (lived (ap (λ (x : Order). is_live x.state) is ∙ lives))))
      ];
}

pub more_by : (b : Bool) (old : List ℕ) (place k : ℕ) → Contains old k → Contains (cond b (old ++ place ∷ []) old) k
more_by true old place k h = Contains-append_left old (place ∷ []) k h
more_by false old place k h = h

pub waits_pruned : (old new : List (List ℕ × List ℕ)) (orders : List Order) (symbol : List ℕ)
    → ((s : List ℕ) → places_of new s ≡ (if same_symbol symbol s then filter (is_live_at orders) (places_of old s) else places_of old s))
    → Waits old orders → Waits new orders
waits_pruned old new orders symbol is waits = record {
  named = λ k order at lives.
      subst (λ ps. Contains ps k) (sym (is order.symbol))
      (by (same_symbol symbol order.symbol) order.symbol k (ap (λ o. option_map_or (λ (order : Order). is_live order.state) o false) at ∙ lives) (waits.named k order at lives));
}
  where
    by : (b : Bool) (s : List ℕ) (k : ℕ) → is_live_at orders k ≡ true → Contains (places_of old s) k
        → Contains (cond b (filter (is_live_at orders) (places_of old s)) (places_of old s)) k
    by true s k lives h = in_filter (is_live_at orders) (places_of old s) k lives h
    by false s k lives h = h

-- another list of places for a symbol
pub places_set : (entries : List (List ℕ × List ℕ)) (symbol s old new : List ℕ) → lookup (same_symbol symbol) entries ≡ Some old
    → places_of (set_value (same_symbol symbol) entries new) s ≡ cond (same_symbol symbol s) new (places_of entries s)
places_set [] symbol s old new e = absurd (none-some old e)
places_set (entry ∷ entries) symbol s old new e = by (same_symbol symbol entry.0) refl e (places_set entries symbol s old new)
  where
    by : (b : Bool) → same_symbol symbol entry.0 ≡ b → cond b (Some entry.1) (lookup (same_symbol symbol) entries) ≡ Some old
        → (lookup (same_symbol symbol) entries ≡ Some old → places_of (set_value (same_symbol symbol) entries new) s ≡ cond (same_symbol symbol s) new (places_of entries s))
        → places_of (cond b ((entry.0, new) ∷ entries) (entry ∷ set_value (same_symbol symbol) entries new)) s ≡ cond (same_symbol symbol s) new (places_of (entry ∷ entries) s)
    by true here is later =
        let turned : same_symbol symbol s ≡ same_symbol s entry.0 =
        nat_list_eq_equiv.symm symbol s ∙ ap (same_symbol s) (same_is symbol entry.0 here) in
        ap (λ b. unwrap_or (cond b (Some new) (lookup (same_symbol s) entries)) []) (sym turned) ∙ one (same_symbol symbol s)
        ∙ ap (λ b. cond (same_symbol symbol s) new (unwrap_or (cond b (Some entry.1) (lookup (same_symbol s) entries)) [])) turned
      where
        one : (b : Bool) → unwrap_or (cond b (Some new) (lookup (same_symbol s) entries)) []
            ≡ cond b new (unwrap_or (cond b (Some entry.1) (lookup (same_symbol s) entries)) [])
        one true = refl
        one false = refl
    by false here is later = two (same_symbol s entry.0) refl (later is)
      where
        two : (b : Bool) → same_symbol s entry.0 ≡ b → places_of (set_value (same_symbol symbol) entries new) s ≡ cond (same_symbol symbol s) new (places_of entries s)
            → unwrap_or (cond b (Some entry.1) (lookup (same_symbol s) (set_value (same_symbol symbol) entries new))) []
            ≡ cond (same_symbol symbol s) new (unwrap_or (cond b (Some entry.1) (lookup (same_symbol s) entries)) [])
        two true same rest = sym (ap (λ b. cond b new entry.1) (ap (same_symbol symbol) (same_is s entry.0 same) ∙ here))
        two false same rest = rest

-- those of the symbol itself
pub places_self : (entries : List (List ℕ × List ℕ)) (symbol s old : List ℕ) (f : List ℕ → List ℕ) → lookup (same_symbol symbol) entries ≡ Some old
    → cond (same_symbol symbol s) (f old) (places_of entries s) ≡ cond (same_symbol symbol s) (f (places_of entries s)) (places_of entries s)
places_self entries symbol s old f e = by (same_symbol symbol s) refl
  where
    by : (b : Bool) → same_symbol symbol s ≡ b → cond b (f old) (places_of entries s) ≡ cond b (f (places_of entries s)) (places_of entries s)
    by true same = ap f (sym (ap (λ x. unwrap_or x []) e) ∙ ap (places_of entries) (same_is symbol s same))
    by false same = refl

pub places_kept : (entries : List (List ℕ × List ℕ)) (symbol s old : List ℕ) → lookup (same_symbol symbol) entries ≡ Some old
    → cond (same_symbol symbol s) old (places_of entries s) ≡ places_of entries s
places_kept entries symbol s old e = places_self entries symbol s old (λ ps. ps) e ∙ one (same_symbol symbol s)
  where
    one : (b : Bool) → cond b (places_of entries s) (places_of entries s) ≡ places_of entries s
    one true = refl
    one false = refl

pub places_begun : (b : Bool) (new : List ℕ) (old : Option (List ℕ)) → unwrap_or (cond b (Some new) old) [] ≡ cond b new (unwrap_or old [])
places_begun true new old = refl
places_begun false new old = refl

pub self_same : (symbol : List ℕ) → same_symbol symbol symbol ≡ true
self_same symbol = nat_list_eq_equiv.refl symbol

pub place_there : (new old : List ℕ) (b : Bool) (place n : ℕ) → new ≡ cond b (old ++ place ∷ []) old → b ≡ true → place ≡ n → Contains new n
place_there new old b place n is same here =
    subst (λ ps. Contains ps n) (sym (is ∙ ap (λ b. cond b (old ++ place ∷ []) old) same))
    (subst (Contains (old ++ place ∷ [])) here (Contains-push old place))

pub ok_of : {A E : Type 0} (r : Result A E) {P : Type 0} → P → OnOk r P
ok_of (Ok a) h = h
ok_of (Err e) h = tt

-- ---- places in the order of ids

-- the places rise from a number on
abbrev pub Rises : ℕ → List ℕ → Type 0
Rises n [] = Unit {0}
Rises n (p ∷ ps) = (n ≤ p) × Rises (p + 1) ps

-- they do not fall
abbrev pub Keeps : ℕ → List ℕ → Type 0
Keeps n [] = Unit {0}
Keeps n (p ∷ ps) = (n ≤ p) × Keeps p ps

keeps_sorted : (n : ℕ) (ps : List ℕ) → ((p : ℕ) → Contains ps p → n ≤ p) → IsNonDecreasingBy (λ p. p) ps → Keeps n ps
keeps_sorted n [] least sorted = tt
keeps_sorted n (p ∷ ps) least sorted = (
  least p (in_first p ps),
  keeps_sorted p ps (λ q h. subst (λ x. p ≤ x) h.2 (sorted 0 (suc h.0) q (omega arith) (omega (arith, h.1)))) (λ i j d l m. sorted (suc i) (suc j) d (omega (arith, l)) (omega (arith, m))),
)

rises_dedup : (n k : ℕ) (ps : List ℕ) → n ≤ k → Keeps k ps → Rises n (dedup_from nat_eq k ps)
rises_dedup n k [] l keeps = (l, tt)
rises_dedup n k (p ∷ ps) l keeps =
    by (nat_eq p k) refl (λ is. rises_dedup n k ps l (subst (λ m. Keeps m ps) is keeps.1)) (λ past. rises_dedup (k + 1) p ps past keeps.1)
  where
    by : (b : Bool) → nat_eq p k ≡ b → (p ≡ k → Rises n (dedup_from nat_eq k ps)) → (k + 1 ≤ p → Rises (k + 1) (dedup_from nat_eq p ps))
        → Rises n (cond b (dedup_from nat_eq k ps) (k ∷ dedup_from nat_eq p ps))
    by true e same later = same (grind (arith, nat_tests))
    by false e same later = let kept : k ≤ p = keeps.0 in (l, later (grind (arith, nat_tests)))

in_dedup_from : (k : ℕ) (ps : List ℕ) (q : ℕ) → Contains (k ∷ ps) q → Contains (dedup_from nat_eq k ps) q
in_dedup_from k [] q h = h
in_dedup_from k (p ∷ ps) q h =
    by (nat_eq p k) refl (first_cases k (p ∷ ps) q h) (in_dedup_from k ps q) (in_dedup_from p ps q)
  where
    by : (b : Bool) → nat_eq p k ≡ b → (k ≡ q) ⊎ Contains (p ∷ ps) q → (Contains (k ∷ ps) q → Contains (dedup_from nat_eq k ps) q)
        → (Contains (p ∷ ps) q → Contains (dedup_from nat_eq p ps) q) → Contains (cond b (dedup_from nat_eq k ps) (k ∷ dedup_from nat_eq p ps)) q
    by true e (inl is) same later = same (subst (Contains (k ∷ ps)) is (in_first k ps))
    by true e (inr there) same later = let as_one : p ≡ k = grind (arith, nat_tests) in same (subst (λ m. Contains (m ∷ ps) q) as_one there)
    by false e (inl is) same later = subst (Contains (k ∷ dedup_from nat_eq p ps)) is (in_first k (dedup_from nat_eq p ps))
    by false e (inr there) same later = in_rest k (dedup_from nat_eq p ps) q (later there)

pub in_dedup : (ps : List ℕ) (q : ℕ) → Contains ps q → Contains (dedup nat_eq ps) q
in_dedup [] q h = h
in_dedup (p ∷ ps) q h = in_dedup_from p ps q h

pub rises_sorted : (ps : List ℕ) → IsNonDecreasingBy (λ p. p) ps → Rises 0 (dedup nat_eq ps)
rises_sorted [] sorted = tt
rises_sorted (p ∷ ps) sorted = rises_dedup 0 p ps (omega arith) (keeps_sorted 0 (p ∷ ps) (λ q h. omega arith) sorted).1

past_first : (n : ℕ) (ps : List ℕ) (k : ℕ) → Rises n ps → Contains ps k → n ≤ k
past_first n [] k rises h = absurd (not_in_none k h)
past_first n (p ∷ ps) k rises h =
    elim (first_cases p ps k h) [
      | inl is ↦ omega (arith, is, rises.0)
      | inr there ↦ omega (arith, rises.0, past_first (p + 1) ps k rises.1 there)
    ]

-- places that rise and have all orders of a test name these
pub names : (test : Order → Bool) (n : ℕ) (ps : List ℕ) (orders : List Order) → Rises n ps → ((k : ℕ) → Contains ps k → k < n + length orders)
    → ((k : ℕ) (o : Order) → slice_get orders k ≡ Some o → test o ≡ true → Contains ps (n + k)) → Name test n ps orders
names test n [] [] rises within covers = refl
names test n (p ∷ ps) [] rises within covers = absurd (omega (arith, rises.0, within p (in_first p ps)))
names test n [] (o ∷ orders) rises within covers = inr (out (test o) refl, names test (n + 1) [] orders tt (λ k h. absurd (not_in_none k h)) later)
  where
    out : (b : Bool) → test o ≡ b → test o ≡ false
    out true e = absurd (not_in_none (n + 0) (covers 0 o refl e))
    out false e = e

    later : (k : ℕ) (x : Order) → slice_get orders k ≡ Some x → test x ≡ true → Contains [] (n + 1 + k)
    later k x at meets = absurd (not_in_none (n + suc k) (covers (suc k) x at meets))
names test n (p ∷ ps) (o ∷ orders) rises within covers =
    by (p == n) refl
    (λ is. names test (n + 1) ps orders (subst (λ q. Rises (q + 1) ps) is rises.1) (λ k h. omega (arith, within k (in_rest p ps k h)))
    (λ k x at meets.
    let on : n + suc k ≡ n + 1 + k = omega arith in
    elim (first_cases p ps (n + suc k) (covers (suc k) x at meets)) [
      | inl here ↦ absurd (omega (arith, here, is))
      | inr there ↦ subst (Contains ps) on there
    ]))
    (λ past. names test (n + 1) (p ∷ ps) orders (past, rises.1) (λ k h. omega (arith, within k h))
    (λ k x at meets. let on : n + suc k ≡ n + 1 + k = omega arith in subst (Contains (p ∷ ps)) on (covers (suc k) x at meets)))
  where
    by : (b : Bool) → (p == n) ≡ b → (p ≡ n → Name test (n + 1) ps orders) → (n + 1 ≤ p → Name test (n + 1) (p ∷ ps) orders) → Name test n (p ∷ ps) (o ∷ orders)
    by true e here later = let is : p ≡ n = grind (arith, nat_tests) in inl (ps, ap (λ q. q ∷ ps) is, here is)
    by false e here later =
        let least : n ≤ p = rises.0 in
        let past : n + 1 ≤ p = grind (arith, nat_tests) in
        inr (out past (test o) refl, later past)
      where
        out : n + 1 ≤ p → (b : Bool) → test o ≡ b → test o ≡ false
        out past true meets = absurd (omega (arith, past_first (n + 1) (p ∷ ps) (n + 0) (past, rises.1) (covers 0 o refl meets)))
        out past false meets = meets

-- an entry that is looked up stands at a place
pub record Found (entries : List (List ℕ × PriceBar)) (symbol : List ℕ) (bar : PriceBar) : Type 0 where
  pub i : ℕ
  pub entry : List ℕ × PriceBar
  pub at : slice_get entries i ≡ Some entry
  pub same : same_symbol symbol entry.0 ≡ true
  pub bar_is : entry.1 ≡ bar

pub found_at : (entries : List (List ℕ × PriceBar)) (symbol : List ℕ) (bar : PriceBar) → lookup (same_symbol symbol) entries ≡ Some bar → Found entries symbol bar
found_at [] symbol bar e = absurd (none-some bar e)
found_at (entry ∷ entries) symbol bar e = by (same_symbol symbol entry.0) refl e (found_at entries symbol bar)
  where
    by : (b : Bool) → same_symbol symbol entry.0 ≡ b → cond b (Some entry.1) (lookup (same_symbol symbol) entries) ≡ Some bar
        → (lookup (same_symbol symbol) entries ≡ Some bar → Found entries symbol bar) → Found (entry ∷ entries) symbol bar
    by true same is later = record { i = 0; entry = entry; at = refl; same = same; bar_is = same_Some entry.1 bar is }
    by false same is later =
        let found : Found entries symbol bar = later is in
        record { i = suc found.i; entry = found.entry; at = found.at; same = found.same; bar_is = found.bar_is }

-- ---- what is due

entry_bar : (costs : Costs) (hours : Entries) (o : Order) (bar : Option PriceBar) → option_map_or (λ bar. changes costs hours bar o) bar false ≡ true
    → (found : PriceBar) × (bar ≡ Some found) × (changes costs hours found o ≡ true)
entry_bar costs hours o None h = absurd (true≢false (sym h))
entry_bar costs hours o (Some bar) h = (bar, refl, h)

pub due_named : (costs : Costs) (hours : Entries) (bars : List (List ℕ × PriceBar)) (orders : List Order) (raw sorted last : List ℕ)
    → ((i : ℕ) → i < length bars → FindsAt costs hours bars i orders raw) → All (λ k. k < length orders) raw
    → IsPermutation raw sorted → IsNonDecreasingBy (λ p. p) sorted → last ≡ dedup nat_eq sorted
    → Name (is_due costs hours bars) 0 last orders
due_named costs hours bars orders raw sorted last finds within moved rising is =
    subst (λ ps. Name (is_due costs hours bars) 0 ps orders) (sym is)
    (names (is_due costs hours bars) 0 (dedup nat_eq sorted) orders (rises_sorted sorted rising)
    (λ k h. omega (
      arith,
      All-contains (λ k. k < length orders) (dedup nat_eq sorted) k
          (All-dedup nat_eq (λ k. k < length orders) sorted (All-permutation (λ k. k < length orders) raw sorted moved within)) h,
    )) covers)
  where
    covers : (k : ℕ) (o : Order) → slice_get orders k ≡ Some o → is_due costs hours bars o ≡ true → Contains (dedup nat_eq sorted) (0 + k)
    covers k o at due =
        let bar : (found : PriceBar) × (lookup (same_symbol o.symbol) bars ≡ Some found) × (changes costs hours found o ≡ true) =
        entry_bar costs hours o (lookup (same_symbol o.symbol) bars) due in
        let found : Found bars o.symbol bar.0 = found_at bars o.symbol bar.0 bar.1 in
        let zero_on : k ≡ 0 + k = omega arith in
        subst (Contains (dedup nat_eq sorted)) zero_on
        (in_dedup sorted k (Contains-permutation raw sorted k moved
        ((finds found.i (slice_get_within bars found.i found.entry found.at) found.entry found.at).found k o at found.same
        (subst (λ b. changes costs hours b o ≡ true) (sym found.bar_is) bar.2))))

lives_first : (b rest : Bool) → (b && rest) ≡ true → b ≡ true
lives_first true rest h = refl
lives_first false rest h = absurd (true≢false (sym h))

pub finds_filter : (costs : Costs) (hours : Entries) (symbol : List ℕ) (bar : PriceBar) (orders : List Order) (entries : List (List ℕ × List ℕ)) (places before after : List ℕ)
    → Waits entries orders → places ≡ places_of entries symbol → after ≡ before ++ filter (changes_at costs hours bar orders) places
    → Finds costs hours symbol bar orders after
finds_filter costs hours symbol bar orders entries places before after waits places_are is = record {
  found = λ k o at same meets.
      let here : changes_at costs hours bar orders k ≡ true = ap (λ x. option_map_or (changes costs hours bar) x false) at ∙ meets in
      let there : Contains places k =
      subst (λ ps. Contains ps k) (sym places_are)
      (subst (λ s. Contains (places_of entries s) k) (same_is o.symbol symbol same)
      (waits.named k o at (lives_first (is_live o.state) (is_some (fill_on costs hours o bar) || (is_set_off hours o bar && not o.triggered)) meets))) in
      subst (λ ps. Contains ps k) (sym is)
      (Contains-append_right before (filter (changes_at costs hours bar orders) places) k (in_filter (changes_at costs hours bar orders) places k here there));
}

at_order : (costs : Costs) (hours : Entries) (bar : PriceBar) (orders : List Order) (k : ℕ) (found : Option Order) → slice_get orders k ≡ found
    → option_map_or (changes costs hours bar) found false ≡ true → k < length orders
at_order costs hours bar orders k None e h = absurd (true≢false (sym h))
at_order costs hours bar orders k (Some o) e h = slice_get_within orders k o e

filter_within : (costs : Costs) (hours : Entries) (bar : PriceBar) (orders : List Order) (places : List ℕ)
    → All (λ k. k < length orders) (filter (changes_at costs hours bar orders) places)
filter_within costs hours bar orders [] = All-nil (λ k. k < length orders)
filter_within costs hours bar orders (p ∷ places) = by (changes_at costs hours bar orders p) refl (filter_within costs hours bar orders places)
  where
    by : (b : Bool) → changes_at costs hours bar orders p ≡ b → All (λ k. k < length orders) (filter (changes_at costs hours bar orders) places)
        → All (λ k. k < length orders) (cond b (p ∷ filter (changes_at costs hours bar orders) places) (filter (changes_at costs hours bar orders) places))
    by true e rest = All-cons (λ k. k < length orders) p (filter (changes_at costs hours bar orders) places) (at_order costs hours bar orders p (slice_get orders p) refl e) rest
    by false e rest = rest

pub grows_filter : (costs : Costs) (hours : Entries) (bar : PriceBar) (orders : List Order) (places before after : List ℕ)
    → after ≡ before ++ filter (changes_at costs hours bar orders) places → Grows orders before after
grows_filter costs hours bar orders places before after is = record {
  stay = λ k h. subst (λ ps. Contains ps k) (sym is) (Contains-append_left before (filter (changes_at costs hours bar orders) places) k h);
  within = λ h. subst (All (λ k. k < length orders)) (sym is)
      (All-append (λ k. k < length orders) before (filter (changes_at costs hours bar orders) places) h (filter_within costs hours bar orders places));
}

pub grows_not : (orders : List Order) (before after : List ℕ) → after ≡ before → Grows orders before after
grows_not orders before after is = record {
  stay = λ k h. subst (λ ps. Contains ps k) (sym is) h;
  within = λ h. subst (All (λ k. k < length orders)) (sym is) h;
}

pub finds_grown : (costs : Costs) (hours : Entries) (bars : List (List ℕ × PriceBar)) (i : ℕ) (orders : List Order) (before after : List ℕ)
    → Grows orders before after → FindsAt costs hours bars i orders before → FindsAt costs hours bars i orders after
finds_grown costs hours bars i orders before after grows finds entry at = record {
  found = λ k o there same meets. grows.stay k ((finds entry at).found k o there same meets);
}

pub next_found : (costs : Costs) (hours : Entries) (bars : List (List ℕ × PriceBar)) (i : ℕ) (orders : List Order) (before after : List ℕ)
    → ((j : ℕ) → j < i → FindsAt costs hours bars j orders before) → Grows orders before after → FindsAt costs hours bars i orders after
    → (j : ℕ) → j < i + 1 → FindsAt costs hours bars j orders after
next_found costs hours bars i orders before after earlier grows here j l = by (nat_eq j i) refl
  where
    by : (b : Bool) → nat_eq j i ≡ b → FindsAt costs hours bars j orders after
    by true e = let is : j ≡ i = grind (arith, nat_tests) in subst (λ k. FindsAt costs hours bars k orders after) (sym is) here
    by false e = let less : j < i = grind (arith, nat_tests) in finds_grown costs hours bars j orders before after grows (earlier j less)

-- the next of the places that a test takes
pub filter_more : (test : ℕ → Bool) (start ps : List ℕ) (i : ℕ) → i < length ps
    → start ++ filter test (take i ps) ++ cond (test (get_or ps i 0)) (get_or ps i 0 ∷ []) [] ≡ start ++ filter test (take (i + 1) ps)
filter_more test start ps i l =
    append_assoc start (filter test (take i ps)) (cond (test (get_or ps i 0)) (get_or ps i 0 ∷ []) [])
    ∙ ap (λ xs. start ++ xs)
    (ap (λ xs. filter test (take i ps) ++ xs) (one (test (get_or ps i 0))) ∙ sym (filter-append test (take i ps) (get_or ps i 0 ∷ []))
    ∙ ap (filter test) (sym (take_more ps i 0 l)))
  where
    one : (b : Bool) → cond b (get_or ps i 0 ∷ []) [] ≡ cond b (get_or ps i 0 ∷ filter test []) (filter test [])
    one true = refl
    one false = refl

pub grows_by : {A E : Type 0} (r : Result A E) (costs : Costs) (hours : Entries) (bar : PriceBar) (orders : List Order) (places before after : List ℕ)
    → OnOk r (after ≡ before ++ filter (changes_at costs hours bar orders) places) → OnErr r (after ≡ before) → Grows orders before after
grows_by (Ok a) costs hours bar orders places before after is same = grows_filter costs hours bar orders places before after is
grows_by (Err e) costs hours bar orders places before after is same = grows_not orders before after same

-- live orders can be filled
pub ranged_kept : (account : Account) (orders : List Order) → AreKept account orders → AreRanged orders
ranged_kept account orders kept = record { each = λ k o at lives. (in_all orders k o kept.resting at lives).ranged }
  where
    in_all : (xs : List Order) (k : ℕ) (o : Order) → All (RestsWhereLive (held account)) xs → slice_get xs k ≡ Some o → RestsWhereLive (held account) o
    in_all [] k o all at = absurd (none-some o at)
    in_all (x ∷ xs) zero o all at = subst (RestsWhereLive (held account)) (same_Some x o at) (All-head (RestsWhereLive (held account)) x xs all)
    in_all (x ∷ xs) (suc k) o all at = in_all xs k o (All-tail (RestsWhereLive (held account)) x xs all) at
