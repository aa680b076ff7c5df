-- What the items of a security are from a moment on: the next bar and the items past it, or the last item alone.
use Rattle.std.proofs.Common.{◌≡◌, ℕ, zero, suc, ◌+◌, ◌-◌, ◌<◌, ◌≤◌, ◌⊎◌, List, [], ◌∷◌, ◌++◌, Bool, true, false, refl, sym, ap, ◌∙◌, subst, arith, inl, inr, length}
use Rattle.std.specs.Prelude.{Option, Some, None, find, option_map, if◌then◌else◌, option_to_list}
use Rattle.std.specs.Option.{option_or}
use Rattle.std.proofs.lemmas.Bool.Decides.{nat_tests}
use Rattle.std.proofs.lemmas.Bool.{cases_lt}
use Rattle.std.proofs.lemmas.List.Elements.{All-nil, All-cons}
use Rattle.lean_items.specs.declared.bad.Bad.{Bad}
use Rattle.lean_items.specs.declared.bar.Bar.{Bar}
use Rattle.lean_items.specs.declared.item.Item.{Item}
use Rattle.lean_items.specs.declared.item.Item.TheVariants.{Bar as BarItem, Bad as BadItem, End}
use Rattle.lean_items.specs.Given.{IsRow}
use Rattle.clock_steps.specs.Walks.{walk}
use Rattle.clock_steps.proofs.WalkLemmas.{walk-first}
use Rattle.clock_feeds.specs.Kept.{Kept}
use Rattle.clock_feeds.specs.Bars.{Filling, end_of, ends_at, fills_at, filled, latest, bar_at}
use Rattle.clock_feeds.specs.Feeds.{last_item, items_at, items_from}
use Rattle.clock_feeds.specs.Lists.{IsWhole, IsNextBar, IsAtEnd}
use Rattle.clock_feeds.proofs.SearchLemmas.{none_some, same_some, Each, found}

-- the bar at a moment is a row that ends there, or it is filled
abbrev pub IsGiven : Filling → Kept Bar → ℕ → Bar → Type 0
IsGiven f kept t bar =
    (find (ends_at t) kept.rows ≡ Some bar)
    ⊎ ((row : Bar) × (latest kept t ≡ Some row) × (filled f t row ≡ bar) × (fills_at f kept t ≡ true))

pub bar_given : (f : Filling) (kept : Kept Bar) (t : ℕ) (bar : Bar) → bar_at f kept t ≡ Some bar → IsGiven f kept t bar
unfolding bar_at
bar_given f kept t bar is = by (find (ends_at t) kept.rows) refl (fills_at f kept t) refl (latest kept t) refl is
  where
    by : (o : Option Bar) → find (ends_at t) kept.rows ≡ o → (b : Bool) → fills_at f kept t ≡ b → (l : Option Bar) → latest kept t ≡ l
        → option_or o (if b then option_map (filled f t) l else None) ≡ Some bar → IsGiven f kept t bar
    by (Some row) found_is b fb l fl e = inl (found_is ∙ e)
    by None found_is true fb (Some row) fl e = inr (row, fl, same_some e, fb)
    by None found_is true fb None fl e = absurd (none_some e)
    by None found_is false fb l fl e = absurd (none_some e)

-- a row that ends at a moment is the bar there
pub bar_found : (f : Filling) (kept : Kept Bar) (t : ℕ) (row : Bar) → find (ends_at t) kept.rows ≡ Some row → bar_at f kept t ≡ Some row
unfolding bar_at
bar_found f kept t row is = rw is refl

each_any : {X : Type 0} (xs : List X) → Each (λ x. Unit {0}) xs
each_any [] = tt
each_any (x ∷ xs) = (tt, each_any xs)

found_ends : (t : ℕ) (rows : List Bar) (bar : Bar) → find (ends_at t) rows ≡ Some bar → end_of bar ≡ t
found_ends t rows bar is =
    let passes : ends_at t bar ≡ true = (found (ends_at t) (λ x. Unit {0}) rows bar (each_any rows) is).0 in
    grind (arith, nat_tests)

-- it ends there
pub bar_ends : (f : Filling) (kept : Kept Bar) (t : ℕ) (bar : Bar) → bar_at f kept t ≡ Some bar → end_of bar ≡ t
bar_ends f kept t bar is =
    elim (bar_given f kept t bar is) [
      | inl row ↦ found_ends t kept.rows bar row
      | inr fresh ↦ sym (ap end_of fresh.2)
    ]

items_given : (f : Filling) (kept : Kept Bar) (t : ℕ) (o : Option Bar) → bar_at f kept t ≡ o → items_at f kept t ≡ option_to_list (option_map BarItem o)
unfolding items_at
items_given f kept t o is = ap (λ b. option_to_list (option_map BarItem b)) is

items_first : (f : Filling) (kept : Kept Bar) (t : ℕ) (o : Option Bar) → bar_at f kept t ≡ o → t ≤ f.last
    → items_from f kept t ≡ (option_to_list (option_map BarItem o) ++ walk (items_at f kept) (t + 1) f.last) ++ last_item kept.stop ∷ []
items_first f kept t o is within =
    ap (λ xs. xs ++ last_item kept.stop ∷ [])
    (walk-first (items_at f kept) t f.last within ∙ ap (λ xs. xs ++ walk (items_at f kept) (t + 1) f.last) (items_given f kept t o is))

-- a bar stands before the items past it, and a moment without one may be left out
pub items_next : (f : Filling) (kept : Kept Bar) (t : ℕ) (bar : Bar) → bar_at f kept t ≡ Some bar → t ≤ f.last
    → items_from f kept t ≡ BarItem bar ∷ items_from f kept (t + 1)
items_next f kept t bar is within = items_first f kept t (Some bar) is within

pub items_none : (f : Filling) (kept : Kept Bar) (t : ℕ) → bar_at f kept t ≡ None → t ≤ f.last → items_from f kept t ≡ items_from f kept (t + 1)
items_none f kept t is within = items_first f kept t None is within

-- past the end of the window only the last item is left
pub items_past : (f : Filling) (kept : Kept Bar) (t : ℕ) → f.last < t → items_from f kept t ≡ last_item kept.stop ∷ []
unfolding walk
items_past f kept t past = let e : f.last + 1 - t ≡ zero = omega arith in rw e refl

-- moments without a bar may be left out
skip_by : (f : Filling) (kept : Kept Bar) (n from : ℕ) → from + n ≤ f.last + 1 → ((t : ℕ) → from ≤ t → t < from + n → bar_at f kept t ≡ None)
    → items_from f kept from ≡ items_from f kept (from + n)
skip_by f kept zero from within none = ap (items_from f kept) (omega arith)
skip_by f kept (suc n) from within none =
    items_none f kept from (none from (omega arith) (omega arith)) (omega arith)
    ∙ skip_by f kept n (from + 1) (omega arith) (λ t low high. none t (omega arith) (omega arith))
    ∙ ap (items_from f kept) (omega arith)

pub items_skip : (f : Filling) (kept : Kept Bar) (from until : ℕ) → from ≤ until → until ≤ f.last + 1
    → ((t : ℕ) → from ≤ t → t < until → bar_at f kept t ≡ None) → items_from f kept from ≡ items_from f kept until
items_skip f kept from until low high none =
    skip_by f kept (until - from) from (omega arith) (λ t l h. none t l (omega arith)) ∙ ap (items_from f kept) (omega arith)

abbrev pub Begins : Filling → Kept Bar → ℕ → Type 0
Begins f kept from = ((bar : Bar) × IsNextBar f kept from bar) ⊎ IsAtEnd f kept from

or_later : (f : Filling) (kept : Kept Bar) (from t : ℕ) → bar_at f kept from ≡ None → from ≤ t → (from + 1 ≤ t → bar_at f kept t ≡ None) → bar_at f kept t ≡ None
or_later f kept from t here low later =
    elim (cases_lt from t) [
      | inl past ↦ later (omega arith)
      | inr under ↦ (let e : from ≡ t = omega arith in subst (λ k. bar_at f kept k ≡ None) e here)
    ]

begins_at : (f : Filling) (kept : Kept Bar) (from : ℕ) (o : Option Bar) → bar_at f kept from ≡ o → from ≤ f.last → Begins f kept (from + 1) → Begins f kept from
begins_at f kept from (Some bar) here within later =
    let e : end_of bar ≡ from = bar_ends f kept from bar here in
    inl (
      bar,
      record {
        is = subst (λ k. items_from f kept from ≡ BarItem bar ∷ items_from f kept (k + 1)) (sym e) (items_next f kept from bar here within);
        ends = subst (λ k. bar_at f kept k ≡ Some bar) (sym e) here;
        since = omega (arith, e);
        until = omega (arith, e);
        none = λ t low high. absurd (omega (arith, e));
      },
    )
begins_at f kept from None here within (inl (bar, next)) =
    inl (
      bar,
      record {
        is = items_none f kept from here within ∙ next.is;
        ends = next.ends;
        since = omega (arith, next.since);
        until = next.until;
        none = λ t low high. or_later f kept from t here low (λ l. next.none t l high);
      },
    )
begins_at f kept from None here within (inr last) =
    inr (record {
      is = items_none f kept from here within ∙ last.is;
      none = λ t low high. or_later f kept from t here low (λ l. last.none t l high);
    })

begins_by : (f : Filling) (kept : Kept Bar) (n from : ℕ) → f.last + 1 - from ≡ n → Begins f kept from
begins_by f kept zero from e =
    inr (record { is = items_past f kept from (omega (arith, e)); none = λ t low high. absurd (omega (arith, e)) })
begins_by f kept (suc n) from e =
    begins_at f kept from (bar_at f kept from) refl (omega (arith, e)) (begins_by f kept n (from + 1) (omega (arith, e)))

-- the items from a moment on begin with the next bar, or there is none
pub begins : (f : Filling) (kept : Kept Bar) (from : ℕ) → Begins f kept from
begins f kept from = begins_by f kept (f.last + 1 - from) from refl

no_bar_last : (bar : Bar) (rest : List Item) (stop : Option Bad) → BarItem bar ∷ rest ≡ last_item stop ∷ [] → ⊥
no_bar_last bar rest None e = cc
no_bar_last bar rest (Some bad) e = cc

bad_last : (bad : Bad) (rest : List Item) (stop : Option Bad) → BadItem bad ∷ rest ≡ last_item stop ∷ [] → (stop ≡ Some bad) × (rest ≡ [])
bad_last bad rest None e = absurd cc
bad_last bad rest (Some other) e = (cc, cc)

end_last : (rest : List Item) (stop : Option Bad) → End ∷ rest ≡ last_item stop ∷ [] → (stop ≡ None) × (rest ≡ [])
end_last rest None e = (refl, cc)
end_last rest (Some other) e = absurd cc

-- what the first item tells
pub told_bar : (f : Filling) (kept : Kept Bar) (from : ℕ) (bar : Bar) (rest : List Item) → items_from f kept from ≡ BarItem bar ∷ rest
    → IsNextBar f kept from bar × (rest ≡ items_from f kept (end_of bar + 1))
told_bar f kept from bar rest is =
    elim (begins f kept from) [
      | inl next ↦ (
          let same : BarItem bar ∷ rest ≡ BarItem next.0 ∷ items_from f kept (end_of next.0 + 1) = sym is ∙ next.1.is in
          let bars : next.0 ≡ bar = cc in
          let goes_on : rest ≡ items_from f kept (end_of next.0 + 1) = cc in
          (subst (λ b. IsNextBar f kept from b) bars next.1, subst (λ b. rest ≡ items_from f kept (end_of b + 1)) bars goes_on)
          )
      | inr last ↦ absurd (no_bar_last bar rest kept.stop (sym is ∙ last.is))
    ]

pub told_bad : (f : Filling) (kept : Kept Bar) (from : ℕ) (bad : Bad) (rest : List Item) → items_from f kept from ≡ BadItem bad ∷ rest
    → IsAtEnd f kept from × (kept.stop ≡ Some bad) × (rest ≡ [])
told_bad f kept from bad rest is =
    elim (begins f kept from) [
      | inl next ↦ (let same : BadItem bad ∷ rest ≡ BarItem next.0 ∷ items_from f kept (end_of next.0 + 1) = sym is ∙ next.1.is in absurd cc)
      | inr last ↦ (let rest_is = bad_last bad rest kept.stop (sym is ∙ last.is) in (last, rest_is.0, rest_is.1))
    ]

pub told_end : (f : Filling) (kept : Kept Bar) (from : ℕ) (rest : List Item) → items_from f kept from ≡ End ∷ rest
    → IsAtEnd f kept from × (kept.stop ≡ None) × (rest ≡ [])
told_end f kept from rest is =
    elim (begins f kept from) [
      | inl next ↦ (let same : End ∷ rest ≡ BarItem next.0 ∷ items_from f kept (end_of next.0 + 1) = sym is ∙ next.1.is in absurd cc)
      | inr last ↦ (let rest_is = end_last rest kept.stop (sym is ∙ last.is) in (last, rest_is.0, rest_is.1))
    ]

-- the items of a security are rows and one last item
whole_by : (f : Filling) (kept : Kept Bar) (n from : ℕ) → f.last + 1 - from ≤ n → IsWhole (items_from f kept from)
whole_by f kept zero from e = record { rows = []; stop = kept.stop; is = items_past f kept from (omega (arith, e)); are_rows = All-nil IsRow }
whole_by f kept (suc n) from e =
    elim (begins f kept from) [
      | inl next ↦ (
          let rest = whole_by f kept n (end_of next.0 + 1) (omega (arith, e, next.1.since, next.1.until)) in
          record { rows = BarItem next.0 ∷ rest.rows; stop = rest.stop; is = next.1.is ∙ ap (λ xs. BarItem next.0 ∷ xs) rest.is; are_rows = All-cons IsRow (BarItem next.0) rest.rows refl rest.are_rows }
          )
      | inr last ↦ record { rows = []; stop = kept.stop; is = last.is; are_rows = All-nil IsRow }
    ]

pub items_whole : (f : Filling) (kept : Kept Bar) (from : ℕ) → IsWhole (items_from f kept from)
items_whole f kept from = whole_by f kept (f.last + 1 - from) from (omega arith)

-- there is at most one item for each moment, and the last one
length_by : (f : Filling) (kept : Kept Bar) (n from : ℕ) → f.last + 1 - from ≤ n → length (items_from f kept from) ≤ n + 1
length_by f kept zero from e = let is = ap length (items_past f kept from (omega (arith, e))) in omega (arith, is)
length_by f kept (suc n) from e =
    elim (begins f kept from) [
      | inl next ↦ (
          let rest = length_by f kept n (end_of next.0 + 1) (omega (arith, e, next.1.since, next.1.until)) in
          let is = ap length next.1.is in
          omega (arith, is, rest)
          )
      | inr last ↦ (let is = ap length last.is in omega (arith, is))
    ]

pub items_length : (f : Filling) (kept : Kept Bar) (from : ℕ) → length (items_from f kept from) ≤ f.last + 2
items_length f kept from = let h = length_by f kept (f.last + 1 - from) from (omega arith) in omega (arith, h)
