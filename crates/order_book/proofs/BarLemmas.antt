-- The bars that are kept of each symbol.
use Rattle.std.proofs.Common.{◌≡◌, ℕ, Bool, true, false, cond, ◌&&◌, List, [], ◌∷◌, Option, Some, refl, sym, ap, subst, ◌∙◌}
use Rattle.std.specs.Prelude.{nat_eq}
use Rattle.std.specs.Cmp.Lexicographic.{pointwise, nat_list_eq_equiv}
use Rattle.std.specs.Map.{lookup}
use Rattle.std.proofs.lemmas.List.Elements.{All-nil, All-cons, All-head, All-tail}
use Rattle.std.proofs.lemmas.Option.{none-some, same_Some}
use Rattle.indexmap.specs.IndexMap.{insert_entry}
use Rattle.lean_orders.specs.declared.desk.PriceBar.{PriceBar}
use Rattle.portfolio.specs.Symbols.{same_symbol}
use Rattle.order_book.specs.Resting.{IsPriced, ArePriced}

abbrev pub PricedEntry : List ℕ × PriceBar → Type 0
PricedEntry entry = IsPriced entry.1

priced_by : (b : Bool) (k : List ℕ) (bar : PriceBar) (e : List ℕ × PriceBar) (es rest : List (List ℕ × PriceBar)) → IsPriced bar → ArePriced (e ∷ es) → ArePriced rest
    → ArePriced (cond b ((e.0, bar) ∷ es) (e ∷ rest))
priced_by true k bar e es rest priced all later = All-cons PricedEntry (e.0, bar) es priced (All-tail PricedEntry e es all)
priced_by false k bar e es rest priced all later = All-cons PricedEntry e rest (All-head PricedEntry e es all) later

pub priced_insert : (entries : List (List ℕ × PriceBar)) (symbol : List ℕ) (bar : PriceBar) → ArePriced entries → IsPriced bar
    → ArePriced (insert_entry (pointwise nat_eq) entries symbol bar)
priced_insert [] symbol bar all priced = All-cons PricedEntry (symbol, bar) [] priced (All-nil PricedEntry)
priced_insert (e ∷ es) symbol bar all priced =
    priced_by (same_symbol symbol e.0) symbol bar e es (insert_entry (pointwise nat_eq) es symbol bar) priced all
    (priced_insert es symbol bar (All-tail PricedEntry e es all) priced)

found_by : (b : Bool) (e : List ℕ × PriceBar) (rest : Option PriceBar) (bar : PriceBar) → IsPriced e.1 → cond b (Some e.1) rest ≡ Some bar → (rest ≡ Some bar → IsPriced bar) → IsPriced bar
found_by true e rest bar priced is later = subst IsPriced (same_Some e.1 bar is) priced
found_by false e rest bar priced is later = later is

pub priced_found : (entries : List (List ℕ × PriceBar)) (test : List ℕ → Bool) (bar : PriceBar) → ArePriced entries → lookup test entries ≡ Some bar → IsPriced bar
priced_found [] test bar all is = absurd (none-some bar is)
priced_found (e ∷ es) test bar all is =
    found_by (test e.0) e (lookup test es) bar (All-head PricedEntry e es all) is (priced_found es test bar (All-tail PricedEntry e es all))

and_real : (b real : Bool) → real ≡ true → (b && real) ≡ b
and_real true real h = h
and_real false real h = refl

-- what is kept of each symbol after a real bar
pub kept_bar : (s symbol : List ℕ) (bar : PriceBar) (old new : Option PriceBar) → bar.real ≡ true → new ≡ cond (same_symbol symbol s) (Some bar) old
    → new ≡ cond (same_symbol s symbol && bar.real) (Some bar) old
kept_bar s symbol bar old new real is =
    is ∙ ap (λ b. cond b (Some bar) old) (nat_list_eq_equiv.symm symbol s ∙ sym (and_real (same_symbol s symbol) bar.real real))
