-- The bars of a list that end at a moment are the bar there, and a list is blocked where its feed is.
use Rattle.std.proofs.Common.{◌≡◌, ℕ, zero, suc, ◌+◌, ◌-◌, ◌<◌, ◌≤◌, List, [], ◌∷◌, ◌++◌, Bool, true, false, refl, sym, ap, ap₂, ◌∙◌, subst, arith, inl, inr, true≢false, map}
use Rattle.std.specs.Prelude.{Option, Some, None, find, cond, ◌==◌, ◌&&◌, not, nat_le, option_map, is_some, if◌then◌else◌, option_to_list}
use Rattle.std.specs.List.{list_all}
use Rattle.std.specs.Option.{option_or}
use Rattle.std.proofs.lemmas.Bool.Decides.{nat_tests}
use Rattle.std.proofs.lemmas.Bool.{cases_lt, and_parts, and_from}
use Rattle.lean_items.specs.declared.bad.Bad.{Bad}
use Rattle.lean_items.specs.declared.bar.Bar.{Bar}
use Rattle.lean_items.specs.declared.item.Item.{Item}
use Rattle.lean_items.specs.declared.item.Item.TheVariants.{Bar as BarItem, Coarse as CoarseItem, Bad as BadItem, Faulted, End}
use Rattle.clock_feeds.specs.Kept.{Kept}
use Rattle.clock_feeds.specs.Bars.{Filling, end_of, ends_at, ends_before, ends_by, is_over, fills_at, filled, bar_at, blocked}
use Rattle.clock_feeds.specs.Feeds.{last_item, items_from, row_items}
use Rattle.clock_feeds.specs.Slices.{Source, bars_at, slice, blocked_at, refused}
use Rattle.clock_feeds.specs.Stands.{EndBy, Rises}
use Rattle.clock_feeds.specs.Lists.{IsNextBar, IsAtEnd, bars_ending, is_by, stop_in, blocked_in, list_of, bars_in, slice_in, bad_in, refused_in, EndInWindows}
use Rattle.clock_feeds.proofs.BarLemmas.{none_by, none_later, none_before}
use Rattle.clock_feeds.proofs.SearchLemmas.{none_some}
use Rattle.clock_feeds.proofs.ListLemmas.{bar_given, bar_found, begins, items_past, items_next, items_skip}

-- ---- the bars that end at a moment

no_last_bar : (t : ℕ) (stop : Option Bad) → bars_ending t (last_item stop ∷ []) ≡ []
no_last_bar t None = refl
no_last_bar t (Some bad) = refl

other_bar : (t : ℕ) (bar : Bar) (rest : List Item) → (end_of bar == t) ≡ false → bars_ending t (BarItem bar ∷ rest) ≡ bars_ending t rest
other_bar t bar rest other = rw other refl

same_bar : (t : ℕ) (bar : Bar) (rest : List Item) → (end_of bar == t) ≡ true → bars_ending t (BarItem bar ∷ rest) ≡ bar ∷ bars_ending t rest
same_bar t bar rest same = rw same refl

no_bars : (f : Filling) (kept : Kept Bar) (n from t : ℕ) → f.last + 1 - from ≤ n → ((e : ℕ) → from ≤ e → e ≤ f.last → (e == t) ≡ false) → bars_ending t (items_from f kept from) ≡ []
no_bars f kept zero from t e other = ap (bars_ending t) (items_past f kept from (omega (arith, e))) ∙ no_last_bar t kept.stop
no_bars f kept (suc n) from t e other =
    elim (begins f kept from) [
      | inl next ↦ (
          let bar = next.0 in
          ap (bars_ending t) next.1.is ∙ other_bar t bar (items_from f kept (end_of bar + 1)) (other (end_of bar) next.1.since next.1.until)
          ∙ no_bars f kept n (end_of bar + 1) t (omega (arith, e, next.1.since, next.1.until)) (λ k low high. other k (omega (arith, low, next.1.since)) high)
          )
      | inr last ↦ ap (bars_ending t) last.is ∙ no_last_bar t kept.stop
    ]

none_till : (f : Filling) (kept : Kept Bar) (from t : ℕ) → t < from → bars_ending t (items_from f kept from) ≡ []
none_till f kept from t early = no_bars f kept (f.last + 1 - from) from t (omega arith) (λ e low high. grind (arith, nat_tests))

bars_with : (f : Filling) (kept : Kept Bar) (from t : ℕ) (bar : Bar) → IsNextBar f kept from bar → from ≤ t
    → (end_of bar < t → bars_ending t (items_from f kept (end_of bar + 1)) ≡ option_to_list (bar_at f kept t)) → bars_ending t (items_from f kept from) ≡ option_to_list (bar_at f kept t)
bars_with f kept from t bar next low later =
    elim (cases_lt t (end_of bar)) [
      | inl early ↦ (
          let other : (end_of bar == t) ≡ false = grind (arith, nat_tests) in
          ap (bars_ending t) next.is ∙ other_bar t bar (items_from f kept (end_of bar + 1)) other ∙ none_till f kept (end_of bar + 1) t (omega (arith, early))
          ∙ sym (ap option_to_list (next.none t low early))
          )
      | inr over ↦ elim (cases_lt (end_of bar) t) [
        | inl past ↦ (
            let other : (end_of bar == t) ≡ false = grind (arith, nat_tests) in
            ap (bars_ending t) next.is ∙ other_bar t bar (items_from f kept (end_of bar + 1)) other ∙ later past
            )
        | inr under ↦ (
            let e : end_of bar ≡ t = omega (arith, over, under) in
            let same : (end_of bar == t) ≡ true = grind (arith, nat_tests) in
            let here : bar_at f kept t ≡ Some bar = subst (λ k. bar_at f kept k ≡ Some bar) e next.ends in
            ap (bars_ending t) next.is ∙ same_bar t bar (items_from f kept (end_of bar + 1)) same
            ∙ ap (λ xs. bar ∷ xs) (none_till f kept (end_of bar + 1) t (omega (arith, e))) ∙ sym (ap option_to_list here)
            )
      ]
    ]

bars_by : (f : Filling) (kept : Kept Bar) (n from t : ℕ) → f.last + 1 - from ≤ n → from ≤ t → t ≤ f.last → bars_ending t (items_from f kept from) ≡ option_to_list (bar_at f kept t)
bars_by f kept zero from t e low high = absurd (omega (arith, e))
bars_by f kept (suc n) from t e low high =
    elim (begins f kept from) [
      | inl next ↦ bars_with f kept from t next.0 next.1 low (λ past. bars_by f kept n (end_of next.0 + 1) t (omega (arith, e, next.1.since, next.1.until)) (omega (arith, past)) high)
      | inr last ↦ ap (bars_ending t) last.is ∙ no_last_bar t kept.stop ∙ sym (ap option_to_list (last.none t low high))
    ]

late : (a b c : Bool) → b ≡ false → (a && (b && c)) ≡ false
late true b c is = rw is refl
late false b c is = refl

-- no bar ends past the window
pub bar_late : (f : Filling) (kept : Kept Bar) (t : ℕ) → EndBy f.last kept.rows → f.last < t → bar_at f kept t ≡ None
unfolding bar_at
bar_late f kept t ends past =
    let over : nat_le t f.last ≡ false = grind (arith, nat_tests) in
    rw (none_by f.last t kept.rows ends past, late f.fills (nat_le t f.last) _ over) refl

-- the bars of the whole list that end at a moment
pub bars_told : (f : Filling) (kept : Kept Bar) (t : ℕ) → EndBy f.last kept.rows → bars_ending t (items_from f kept 0) ≡ option_to_list (bar_at f kept t)
bars_told f kept t ends =
    elim (cases_lt f.last t) [
      | inl past ↦ no_bars f kept (f.last + 1) 0 t (omega arith) (λ e low high. grind (arith, nat_tests)) ∙ sym (ap option_to_list (bar_late f kept t ends past))
      | inr within ↦ bars_by f kept (f.last + 1) 0 t (omega arith) (omega arith) within
    ]

nothing_to_fill : (b : Bool) (f : Filling) (t : ℕ) → (if b then option_map (filled f t) None else None) ≡ None
nothing_to_fill true f t = refl
nothing_to_fill false f t = refl

-- no bar ends at or before the moment past which the kept rows rise
pub bar_early : (f : Filling) (kept : Kept Bar) (after t : ℕ) → Rises after kept.rows → t ≤ after → bar_at f kept t ≡ None
unfolding bar_at
bar_early f kept after t rises low = rw (none_later after t kept.rows rises low, none_before after t kept.rows rises (omega (arith, low))) (nothing_to_fill (fills_at f kept t) f t)

-- so the walk may begin past it
pub items_start : (f : Filling) (kept : Kept Bar) (after from : ℕ) → Rises after kept.rows → from ≤ after + 1 → after ≤ f.last → items_from f kept from ≡ items_from f kept (after + 1)
items_start f kept after from rises low within =
    items_skip f kept from (after + 1) low (omega arith) (λ t l h. bar_early f kept after t rises (omega arith))

-- ---- blocked feeds

not_by : (s e : ℕ) (rows : List Bar) (bar : Bar) → find (ends_at e) rows ≡ Some bar → s < e → list_all (ends_by s) rows ≡ false
not_by s e [] bar is low = absurd (none_some is)
not_by s e (row ∷ rows) bar is low = by (ends_at e row) refl (λ later. not_by s e rows bar later low) is
  where
    by : (b : Bool) → ends_at e row ≡ b → (find (ends_at e) rows ≡ Some bar → list_all (ends_by s) rows ≡ false) → cond b (Some row) (find (ends_at e) rows) ≡ Some bar
        → list_all (ends_by s) (row ∷ rows) ≡ false
    by true here later found_is = let past : ends_by s row ≡ false = grind (arith, nat_tests) in rw past refl
    by false here later found_is = and_false (ends_by s row) (list_all (ends_by s) rows) (later found_is)
      where
        and_false : (a b : Bool) → b ≡ false → (a && b) ≡ false
        and_false true b is = is
        and_false false b is = refl

by_earlier : (s e : ℕ) (rows : List Bar) → s < e → list_all (ends_by s) rows ≡ true → list_all (ends_before e) rows ≡ true
by_earlier s e [] low all = refl
by_earlier s e (row ∷ rows) low all =
    let parts = and_parts (ends_by s row) (list_all (ends_by s) rows) all in
    let here : ends_before e row ≡ true = (let h : ends_by s row ≡ true = parts.0 in grind (arith, nat_tests)) in
    and_from (ends_before e row) (list_all (ends_before e) rows) here (by_earlier s e rows low parts.1)

no_stop : (b : Bool) (stop : Option Bad) → stop ≡ None → (if b then stop else None) ≡ None
no_stop true stop is = is
no_stop false stop is = refl

fills_parts : (a b c d : Bool) → (a && (b && (c && not d))) ≡ true → d ≡ false
fills_parts a b c d is = grind arith

not_over : (stop : Option Bad) (b : Bool) (bad : Bad) → stop ≡ Some bad → (is_some stop && b) ≡ false → b ≡ false
not_over None b bad is not_all = absurd (none_some is)
not_over (Some other) b bad is not_all = not_all

-- while a bar is still to come a feed is not blocked
pub not_blocked : (f : Filling) (kept : Kept Bar) (e : ℕ) (bar : Bar) (s : ℕ) → bar_at f kept e ≡ Some bar → s < e → blocked kept s ≡ None
not_blocked f kept e bar s is low = by kept.stop refl
  where
    with_stop : (bad : Bad) → kept.stop ≡ Some bad → (b : Bool) → list_all (ends_by s) kept.rows ≡ b → (if b then kept.stop else None) ≡ None
    with_stop bad stop false all = refl
    with_stop bad stop true all =
        elim (bar_given f kept e bar is) [
          | inl row ↦ absurd (true≢false (sym all ∙ not_by s e kept.rows bar row low))
          | inr fresh ↦ (
              let some_left = not_over kept.stop (list_all (ends_before e) kept.rows) bad stop (fills_parts f.fills (nat_le e f.last) _ (is_over kept e) fresh.3) in
              absurd (true≢false (sym (by_earlier s e kept.rows low all) ∙ some_left))
              )
        ]

    by : (stop : Option Bad) → kept.stop ≡ stop → blocked kept s ≡ None
    by None stop_is = no_stop (list_all (ends_by s) kept.rows) kept.stop stop_is
    by (Some bad) stop_is = with_stop bad stop_is (list_all (ends_by s) kept.rows) refl

no_row_at : (f : Filling) (kept : Kept Bar) (t : ℕ) → bar_at f kept t ≡ None → find (ends_at t) kept.rows ≡ None
no_row_at f kept t none = by (find (ends_at t) kept.rows) refl
  where
    by : (o : Option Bar) → find (ends_at t) kept.rows ≡ o → find (ends_at t) kept.rows ≡ None
    by None is = is
    by (Some row) is = absurd (none_some (sym none ∙ bar_found f kept t row is))

not_found : (p : Bar → Bool) (row : Bar) (rows : List Bar) → find p (row ∷ rows) ≡ None → (p row ≡ false) × (find p rows ≡ None)
not_found p row rows is = by (p row) refl is
  where
    by : (b : Bool) → p row ≡ b → cond b (Some row) (find p rows) ≡ None → (p row ≡ false) × (find p rows ≡ None)
    by true here e = absurd (none_some (sym e))
    by false here e = (here, e)

all_passed : (from last s : ℕ) (rows : List Bar) → EndBy last rows → from ≤ s + 1 → ((t : ℕ) → from ≤ t → t ≤ last → find (ends_at t) rows ≡ None) → list_all (ends_by s) rows ≡ true
all_passed from last s [] ends low none = refl
all_passed from last s (row ∷ rows) ends low none =
    let within : end_of row ≤ last = ends.0 in
    let here : ends_by s row ≡ true = elim (cases_lt (end_of row) from) [
      | inl before ↦ grind (arith, nat_tests)
      | inr since ↦ (
          let other : ends_at (end_of row) row ≡ false = (not_found (ends_at (end_of row)) row rows (none (end_of row) since within)).0 in
          grind (arith, nat_tests)
          )
    ] in
    and_from (ends_by s row) (list_all (ends_by s) rows) here (all_passed from last s rows ends.1 low (λ t l h. (not_found (ends_at t) row rows (none t l h)).1))

-- once only the last item is left, a feed is blocked by its malformed line
pub blocked_at_end : (f : Filling) (kept : Kept Bar) (from s : ℕ) → IsAtEnd f kept from → EndBy f.last kept.rows → from ≤ s + 1 → blocked kept s ≡ kept.stop
blocked_at_end f kept from s last ends low =
    rw (all_passed from f.last s kept.rows ends low (λ t l h. no_row_at f kept t (last.none t l h))) refl

stop_of_last : (stop : Option Bad) → stop_in (last_item stop ∷ []) ≡ stop
stop_of_last None = refl
stop_of_last (Some bad) = refl

stop_by : (f : Filling) (kept : Kept Bar) (n from : ℕ) → f.last + 1 - from ≤ n → stop_in (items_from f kept from) ≡ kept.stop
stop_by f kept zero from e = ap stop_in (items_past f kept from (omega (arith, e))) ∙ stop_of_last kept.stop
stop_by f kept (suc n) from e =
    elim (begins f kept from) [
      | inl next ↦ ap stop_in next.1.is ∙ stop_by f kept n (end_of next.0 + 1) (omega (arith, e, next.1.since, next.1.until))
      | inr last ↦ ap stop_in last.is ∙ stop_of_last kept.stop
    ]

pub items_stop : (f : Filling) (kept : Kept Bar) (from : ℕ) → stop_in (items_from f kept from) ≡ kept.stop
items_stop f kept from = stop_by f kept (f.last + 1 - from) from (omega arith)

last_is_by : (t : ℕ) (stop : Option Bad) → list_all (is_by t) (last_item stop ∷ []) ≡ true
last_is_by t None = refl
last_is_by t (Some bad) = refl

items_by : (f : Filling) (kept : Kept Bar) (bad : Bad) (n from t : ℕ) → f.last + 1 - from ≤ n → kept.stop ≡ Some bad → list_all (ends_by t) kept.rows ≡ true
    → list_all (is_by t) (items_from f kept from) ≡ true
items_by f kept bad zero from t e stop all = ap (list_all (is_by t)) (items_past f kept from (omega (arith, e))) ∙ last_is_by t kept.stop
items_by f kept bad (suc n) from t e stop all =
    elim (begins f kept from) [
      | inl next ↦ (
          let bar = next.0 in
          let is_blocked : blocked kept t ≡ Some bad = rw all stop in
          let here : is_by t (BarItem bar) ≡ true = elim (cases_lt t (end_of bar)) [
            | inl early ↦ absurd (none_some (sym (not_blocked f kept (end_of bar) bar t next.1.ends early) ∙ is_blocked))
            | inr over ↦ grind (arith, nat_tests)
          ] in
          ap (list_all (is_by t)) next.1.is
          ∙ and_from (is_by t (BarItem bar)) (list_all (is_by t) (items_from f kept (end_of bar + 1))) here
          (items_by f kept bad n (end_of bar + 1) t (omega (arith, e, next.1.since, next.1.until)) stop all)
          )
      | inr last ↦ ap (list_all (is_by t)) last.is ∙ last_is_by t kept.stop
    ]

none_past : (t e : ℕ) (items : List Item) → list_all (is_by t) items ≡ true → t < e → bars_ending e items ≡ []
none_past t e [] all past = refl
none_past t e (BarItem bar ∷ items) all past =
    let parts = and_parts (is_by t (BarItem bar)) (list_all (is_by t) items) all in
    let other : (end_of bar == e) ≡ false = (let h : nat_le (end_of bar) t ≡ true = parts.0 in grind (arith, nat_tests)) in
    other_bar e bar items other ∙ none_past t e items parts.1 past
none_past t e (CoarseItem at row ∷ items) all past = none_past t e items (and_parts (is_by t (CoarseItem at row)) (list_all (is_by t) items) all).1 past
none_past t e (BadItem bad ∷ items) all past = none_past t e items all past
none_past t e (Faulted ∷ items) all past = none_past t e items all past
none_past t e (End ∷ items) all past = none_past t e items all past

pub none_listed : (o : Option Bar) → [] ≡ option_to_list o → o ≡ None
none_listed None is = refl
none_listed (Some bar) is = absurd cc

rows_by : (f : Filling) (kept : Kept Bar) (t : ℕ) → EndBy f.last kept.rows → list_all (is_by t) (items_from f kept 0) ≡ true → list_all (ends_by t) kept.rows ≡ true
rows_by f kept t ends all =
    all_passed (t + 1) f.last t kept.rows ends (omega arith)
    (λ e low high. no_row_at f kept e (none_listed (bar_at f kept e) (sym (none_past t e (items_from f kept 0) all (omega arith)) ∙ bars_told f kept e ends)))

same_tests : (a b : Bool) → (a ≡ true → b ≡ true) → (b ≡ true → a ≡ true) → a ≡ b
same_tests true b forth back = sym (forth refl)
same_tests false true forth back = back refl
same_tests false false forth back = refl

-- a list is blocked where its feed is
pub blocked_told : (f : Filling) (kept : Kept Bar) (t : ℕ) → EndBy f.last kept.rows → blocked kept t ≡ blocked_in (items_from f kept 0) t
blocked_told f kept t ends = by kept.stop refl
  where
    by : (stop : Option Bad) → kept.stop ≡ stop → blocked kept t ≡ blocked_in (items_from f kept 0) t
    by None stop_is =
        no_stop (list_all (ends_by t) kept.rows) kept.stop stop_is
        ∙ sym (no_stop (list_all (is_by t) (items_from f kept 0)) (stop_in (items_from f kept 0)) (items_stop f kept 0 ∙ stop_is))
    by (Some bad) stop_is =
        ap₂ (λ b stop. if b then stop else None)
        (same_tests (list_all (ends_by t) kept.rows) (list_all (is_by t) (items_from f kept 0)) (λ all. items_by f kept bad (f.last + 1) 0 t (omega arith) stop_is all) (rows_by f kept t ends))
        (sym (items_stop f kept 0))

-- ---- sources

module _ {N : Type 0} where
  named : (name : N) (o : Option Bar) → option_to_list {X = N × Bar} (option_map (λ bar. (name, bar)) o) ≡ map (λ bar. (name, bar)) (option_to_list o)
  named name None = refl
  named name (Some bar) = refl

  pub bars_at_told : (t : ℕ) (source : N × Source) → EndBy source.1.filling.last source.1.kept.rows → bars_at t source ≡ bars_in t (list_of source)
  bars_at_told t (name, s) ends =
      named name (bar_at s.filling s.kept t) ∙ ap (map (λ bar. (name, bar))) (sym (bars_told s.filling s.kept t ends))

  -- the slice of a moment is that of the lists
  pub slice_told : (t : ℕ) (sources : List (N × Source)) → EndInWindows sources → slice sources t ≡ slice_in (map list_of sources) t
  slice_told t [] ends = refl
  slice_told t (s ∷ sources) ends = ap₂ (λ xs ys. xs ++ ys) (bars_at_told t s ends.0) (slice_told t sources ends.1)

  pub bad_told : (t : ℕ) (source : N × Source) → EndBy source.1.filling.last source.1.kept.rows → blocked_at t source ≡ bad_in t (list_of source)
  bad_told t (name, s) ends = ap (option_map (λ bad. (name, bad))) (blocked_told s.filling s.kept t ends)

  -- and so is the malformed line that is due
  pub refused_told : (t : ℕ) (sources : List (N × Source)) → EndInWindows sources → refused sources t ≡ refused_in (map list_of sources) t
  refused_told t [] ends = refl
  refused_told t (s ∷ sources) ends = ap₂ option_or (bad_told t s ends.0) (refused_told t sources ends.1)

-- ---- feeds that do not fill

or_none : (o : Option Bar) → option_or o None ≡ o
or_none None = refl
or_none (Some bar) = refl

bar_plain : (f : Filling) (kept : Kept Bar) (t : ℕ) → f.fills ≡ false → bar_at f kept t ≡ find (ends_at t) kept.rows
unfolding bar_at
bar_plain f kept t plain = rw plain (or_none (find (ends_at t) kept.rows))

here_found : (row : Bar) (rows : List Bar) → find (ends_at (end_of row)) (row ∷ rows) ≡ Some row
here_found row rows = let here : ends_at (end_of row) row ≡ true = grind (arith, nat_tests) in rw here refl

past_row : (t : ℕ) (row : Bar) (rows : List Bar) → end_of row < t → find (ends_at t) (row ∷ rows) ≡ find (ends_at t) rows
past_row t row rows past = let other : ends_at t row ≡ false = grind (arith, nat_tests) in rw other refl

none_there : (after t : ℕ) (row : Bar) (rows : List Bar) → Rises after (row ∷ rows) → t < end_of row → find (ends_at t) (row ∷ rows) ≡ None
none_there after t row rows rises low =
    let other : ends_at t row ≡ false = grind (arith, nat_tests) in
    rw (other, none_later (end_of row) t rows rises.1 (omega (arith, low))) refl

plain_by : (f : Filling) (kept : Kept Bar) (after : ℕ) (left : List Bar) → f.fills ≡ false → after ≤ f.last → Rises after left → EndBy f.last left
    → ((t : ℕ) → after < t → find (ends_at t) kept.rows ≡ find (ends_at t) left) → items_from f kept (after + 1) ≡ map BarItem left ++ last_item kept.stop ∷ []
plain_by f kept after [] plain low rises ends same =
    items_skip f kept (after + 1) (f.last + 1) (omega arith) (omega arith) (λ t l h. bar_plain f kept t plain ∙ same t (omega arith))
    ∙ items_past f kept (f.last + 1) (omega arith)
plain_by f kept after (row ∷ left) plain low rises ends same =
    let up : after < end_of row = rises.0 in
    let within : end_of row ≤ f.last = ends.0 in
    items_skip f kept (after + 1) (end_of row) (omega (arith, up)) (omega (arith, within)) (λ t l h. bar_plain f kept t plain ∙ same t (omega arith) ∙ none_there after t row left rises h)
    ∙ items_next f kept (end_of row) row (bar_plain f kept (end_of row) plain ∙ same (end_of row) up ∙ here_found row left) within
    ∙ ap (λ xs. BarItem row ∷ xs)
    (plain_by f kept (end_of row) left plain within rises.1 ends.1 (λ t past. same t (omega (arith, up, past)) ∙ past_row t row left past))

-- the list of a feed that does not fill is its rows
pub plain_items : (f : Filling) (kept : Kept Bar) → f.fills ≡ false → Rises 0 kept.rows → EndBy f.last kept.rows → items_from f kept 0 ≡ row_items kept
plain_items f kept plain rises ends =
    items_start f kept 0 0 rises (omega arith) (omega arith) ∙ plain_by f kept 0 kept.rows plain (omega arith) rises ends (λ t past. refl)
