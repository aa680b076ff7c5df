-- What the rules ask for, one security after another and one rule after another.
use Rattle.std.proofs.Common.{◌≡◌, ℕ, zero, suc, ◌+◌, ◌<◌, false, cond, List, [], ◌∷◌, ◌++◌, length, get_or, take, map, flat_map, Option, Some, None, refl, sym, ap, subst, ◌∙◌, arith, append_assoc}
use Rattle.std.specs.Prelude.{slice_get, option_and_then}
use Rattle.std.specs.List.{AllZip, AllByRecursion as Each}
use Rattle.std.proofs.lemmas.List.{append-nil}
use Rattle.std.proofs.lemmas.Grind.{flat_map-append}
use Rattle.lean_fixed.specs.declared.money.Price.{Price}
use Rattle.lean_items.specs.declared.bar.Bar.{Bar}
use Rattle.lean_orders.specs.declared.desk.Command.{Command}
use Rattle.lean_orders.specs.declared.order.Resting.{Resting}
use Rattle.bar_windows.specs.declared.spec.WindowSpec.{WindowSpec}
use Rattle.bar_windows.specs.Recent.{StandsFor as WindowsStandFor}
use Rattle.rule_lang.specs.Tree.{Tree}
use Rattle.rule_lang.specs.declared.view.View.{View}
use Rattle.rule_lang.specs.Values.{truth_in}
use Rattle.rule_lang.specs.Closes.{value_over}
use Rattle.rule_strategy.specs.declared.asking.RuleView.{RuleView}
use Rattle.rule_strategy.specs.declared.rule.Rule.{Rule}
use Rattle.rule_strategy.specs.Asked.{requests_of, asked_by}
use Rattle.clock_book.specs.Seen.{Seen}
use Rattle.clock_run.specs.Histories.{History, closes}
use Rattle.clock_run.specs.Requests.{view_of, values_if, rule_view, quantity_of, price_of, limit_of, orders_seen, security_requests, requests}
use Rattle.backtest_core.specs.declared.facts.Facts.{Facts}
use Rattle.backtest_core.specs.declared.places.RulePlaces.{RulePlaces}
use Rattle.backtest_core.specs.declared.watched.Watched.{Watched}
use Rattle.backtest_core.specs.Standing.{Followed, history}
use Rattle.backtest_core.specs.Watching.{WatchesAt}
use Rattle.backtest_core.specs.Asking.{facts_of, view_with, value_at, Finds, windows_if, FindsRule}

-- ---- views

map-looked : (closes : List Price) (specs : List WindowSpec) (places : List ℕ)
    → map (value_at closes specs) places ≡ map (option_and_then (value_over closes)) (map (slice_get specs) places)
map-looked closes specs [] = refl
map-looked closes specs (place ∷ places) = ap (λ values. value_at closes specs place ∷ values) (map-looked closes specs places)

map-some : (closes : List Price) (specs : List WindowSpec) → map (option_and_then (value_over closes)) (map Some specs) ≡ map (value_over closes) specs
map-some closes [] = refl
map-some closes (spec ∷ specs) = ap (λ values. value_over closes spec ∷ values) (map-some closes specs)

values-found : (closes : List Price) (specs : List WindowSpec) (places : List ℕ) (wanted : List WindowSpec) → Finds specs places wanted
    → map (value_at closes specs) places ≡ map (value_over closes) wanted
values-found closes specs places wanted finds =
    map-looked closes specs places ∙ ap (map (option_and_then (value_over closes))) finds ∙ map-some closes wanted

values-if : (h : History) (tree : Option Tree) → map (value_over (closes h)) (windows_if tree) ≡ values_if h tree
values-if h None = refl
values-if h (Some tree) = refl

pub view-found : (seen : Seen) (t : ℕ) (h : History) (bar : Bar) (facts : Facts) (specs : List WindowSpec) (places : List ℕ) (tree : Option Tree)
    → facts ≡ facts_of seen t h.symbol bar → Finds specs places (windows_if tree)
    → view_with facts (map (value_at (closes h) specs) places) ≡ view_of seen t h bar (values_if h tree)
view-found seen t h bar facts specs places tree is finds =
    ap (λ (x : Facts). view_with x (map (value_at (closes h) specs) places)) is
    ∙ ap (view_with (facts_of seen t h.symbol bar)) (values-found (closes h) specs places (windows_if tree) finds ∙ values-if h tree)

pub rule_view-found : (seen : Seen) (t : ℕ) (h : History) (bar : Bar) (facts : Facts) (specs : List WindowSpec) (places : RulePlaces) (rule : Rule)
    → facts ≡ facts_of seen t h.symbol bar → FindsRule specs places rule
    → record {
      when = view_with facts (map (value_at (closes h) specs) places.when.items);
      quantity = view_with facts (map (value_at (closes h) specs) places.quantity.items);
      price = view_with facts (map (value_at (closes h) specs) places.price.items);
      limit = view_with facts (map (value_at (closes h) specs) places.limit.items);
    } ≡ rule_view seen t h bar rule
rule_view-found seen t h bar facts specs places rule is finds = λ k. record {
  when = view-found seen t h bar facts specs places.when.items (Some rule.when) is finds.when k;
  quantity = view-found seen t h bar facts specs places.quantity.items (quantity_of rule.action) is finds.quantity k;
  price = view-found seen t h bar facts specs places.price.items (price_of rule.action) is finds.price k;
  limit = view-found seen t h bar facts specs places.limit.items (limit_of rule.action) is finds.limit k;
}

-- a rule asks for nothing where what it waits for is not so
requests-untrue : (rule : Rule) (symbol : List ℕ) (view : RuleView) (live : List Resting) → truth_in view.when rule.when ≡ false
    → requests_of rule symbol view live ≡ []
unfolding requests_of
requests-untrue rule symbol view live untrue = ap (λ b. cond b (asked_by rule.action symbol view live) []) untrue

pub asks-nothing : (seen : Seen) (t : ℕ) (h : History) (bar : Bar) (facts : Facts) (specs : List WindowSpec) (places : RulePlaces) (rule : Rule) (out : List Command)
    → facts ≡ facts_of seen t h.symbol bar → FindsRule specs places rule
    → truth_in (view_with facts (map (value_at (closes h) specs) places.when.items)) rule.when ≡ false
    → out ≡ out ++ requests_of rule h.symbol (rule_view seen t h bar rule) (orders_seen seen h.symbol)
asks-nothing seen t h bar facts specs places rule out is finds untrue =
    sym (append-nil out)
    ∙ ap (λ xs. out ++ xs)
    (sym (requests-untrue rule h.symbol (rule_view seen t h bar rule) (orders_seen seen h.symbol)
    (ap (λ (v : RuleView). truth_in v.when rule.when) (sym (rule_view-found seen t h bar facts specs places rule is finds)) ∙ untrue)))

pub asks-all : (seen : Seen) (t : ℕ) (h : History) (bar : Bar) (facts : Facts) (specs : List WindowSpec) (places : RulePlaces) (rule : Rule) (out new : List Command)
    (symbol : List ℕ) (view : RuleView) (when : View) (live : List Resting)
    → new ≡ out ++ requests_of rule symbol view live → symbol ≡ h.symbol → live ≡ orders_seen seen symbol
    → view ≡ record {
      when = when;
      quantity = view_with facts (map (value_at (closes h) specs) places.quantity.items);
      price = view_with facts (map (value_at (closes h) specs) places.price.items);
      limit = view_with facts (map (value_at (closes h) specs) places.limit.items);
    }
    → when ≡ view_with facts (map (value_at (closes h) specs) places.when.items)
    → facts ≡ facts_of seen t h.symbol bar → FindsRule specs places rule
    → new ≡ out ++ requests_of rule h.symbol (rule_view seen t h bar rule) (orders_seen seen h.symbol)
asks-all seen t h bar facts specs places rule out new symbol view when live asked same lives viewed first is finds =
    asked
    ∙ ap (λ xs. out ++ requests_of rule symbol view xs) lives
    ∙ ap (λ s. out ++ requests_of rule s view (orders_seen seen s)) same
    ∙ ap (λ (v : RuleView). out ++ requests_of rule h.symbol v (orders_seen seen h.symbol)) (viewed ∙ ap whole first ∙ rule_view-found seen t h bar facts specs places rule is finds)
  where
    whole : View → RuleView
    whole v = record {
      when = v;
      quantity = view_with facts (map (value_at (closes h) specs) places.quantity.items);
      price = view_with facts (map (value_at (closes h) specs) places.price.items);
      limit = view_with facts (map (value_at (closes h) specs) places.limit.items);
    }

-- the windows of a security stand for its closes
pub closes-followed : (t : ℕ) (w : Watched) (f : Followed) → WatchesAt t w f → WindowsStandFor w.following.windows (closes (history f))
closes-followed t w f at =
    subst (λ period. WindowsStandFor w.following.windows (closes (record { symbol = []; period = period; bars = f.bars })))
    (sym w.period_is ∙ at.watches.period) at.watches.follows.closes

-- ---- one after another

-- the item of the second list that goes with one of the first
pub record Goes {A B : Type 0} (R : A → B → Type 0) (x : A) (ys : List B) (n : ℕ) : Type 0 where
  pub item : B
  pub related : R x item
  pub more : take (suc n) ys ≡ take n ys ++ item ∷ []

pub zip-at : {A B : Type 0} (R : A → B → Type 0) (xs : List A) (ys : List B) (n : ℕ) (d : A) → AllZip R xs ys → n < length xs → Goes R (get_or xs n d) ys n
zip-at R [] ys n d zip l = absurd (omega (arith, l))
zip-at R (x ∷ xs) [] n d zip l = absurd zip
zip-at R (x ∷ xs) (y ∷ ys) zero d zip l = record { item = y; related = zip.0; more = refl }
zip-at R (x ∷ xs) (y ∷ ys) (suc n) d zip l =
    let rest = zip-at R xs ys n d zip.1 (omega (arith, l)) in
    record { item = rest.item; related = rest.related; more = ap (λ zs. y ∷ zs) rest.more }

pub zip-all : {A B : Type 0} (R : A → B → Type 0) (xs : List A) (ys : List B) → AllZip R xs ys → take (length xs) ys ≡ ys
zip-all R [] [] zip = refl
zip-all R [] (y ∷ ys) zip = absurd zip
zip-all R (x ∷ xs) [] zip = absurd zip
zip-all R (x ∷ xs) (y ∷ ys) zip = ap (λ zs. y ∷ zs) (zip-all R xs ys zip.1)

pub zip-get : {A B : Type 0} (R : A → B → Type 0) (xs : List A) (ys : List B) (n : ℕ) (d : A) (e : B) → AllZip R xs ys → n < length xs
    → R (get_or xs n d) (get_or ys n e)
zip-get R [] ys n d e zip l = absurd (omega (arith, l))
zip-get R (x ∷ xs) [] n d e zip l = absurd zip
zip-get R (x ∷ xs) (y ∷ ys) zero d e zip l = zip.0
zip-get R (x ∷ xs) (y ∷ ys) (suc n) d e zip l = zip-get R xs ys n d e zip.1 (omega (arith, l))

pub zip-length : {A B : Type 0} (R : A → B → Type 0) (xs : List A) (ys : List B) → AllZip R xs ys → length xs ≡ length ys
zip-length R [] [] zip = refl
zip-length R [] (y ∷ ys) zip = absurd zip
zip-length R (x ∷ xs) [] zip = absurd zip
zip-length R (x ∷ xs) (y ∷ ys) zip = ap (λ n. suc n) (zip-length R xs ys zip.1)

pub each-at : {A : Type 0} (P : A → Type 0) (xs : List A) (n : ℕ) (d : A) → Each P xs → n < length xs → P (get_or xs n d)
each-at P [] n d each l = absurd (omega (arith, l))
each-at P (x ∷ xs) zero d each l = each.0
each-at P (x ∷ xs) (suc n) d each l = each-at P xs n d each.1 (omega (arith, l))

pub asked-more : {B : Type 0} (g : B → List Command) (ys : List B) (n : ℕ) (item : B) (start now new : List Command)
    → take (suc n) ys ≡ take n ys ++ item ∷ [] → now ≡ start ++ flat_map g (take n ys) → new ≡ now ++ g item
    → new ≡ start ++ flat_map g (take (n + 1) ys)
asked-more g ys n item start now new more so_far next =
    let step : suc n ≡ n + 1 = omega arith in
    next
    ∙ ap (λ xs. xs ++ g item) so_far
    ∙ append_assoc start (flat_map g (take n ys)) (g item)
    ∙ ap (λ xs. start ++ xs)
    (ap (λ xs. flat_map g (take n ys) ++ xs) (sym (append-nil (g item)))
    ∙ sym (flat_map-append g (take n ys) (item ∷ []))
    ∙ ap (flat_map g) (sym more ∙ ap (λ m. take m ys) step))

pub asked-rules : (rules : List Rule) (n : ℕ) (seen : Seen) (t : ℕ) (hs : List History) (start now : List Command)
    → n ≡ length rules → now ≡ start ++ flat_map (λ rule. flat_map (security_requests seen t rule) hs) (take n rules) → now ≡ start ++ requests rules seen t hs
unfolding requests
asked-rules rules n seen t hs start now end so_far =
    so_far ∙ ap (λ xs. start ++ flat_map (λ rule. flat_map (security_requests seen t rule) hs) xs) (ap (λ m. take m rules) end ∙ take-all rules)
  where
    take-all : (xs : List Rule) → take (length xs) xs ≡ xs
    take-all [] = refl
    take-all (x ∷ xs) = ap (λ ys. x ∷ ys) (take-all xs)
