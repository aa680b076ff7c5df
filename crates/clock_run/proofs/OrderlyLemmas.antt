-- Every part of a moment leaves an orderly state.
use Rattle.std.proofs.Common.{◌≡◌, ℕ, suc, ◌+◌, ◌-◌, ◌≤◌, List, [], ◌∷◌, ◌++◌, Bool, true, false, refl, ap, sym, subst, ◌∙◌, arith}
use Rattle.std.specs.Prelude.{◌≢◌, Option, Some, None, not, map, filter, length, take, zero, if◌then◌else◌}
use Rattle.std.specs.List.{AllByRecursion as Each, All, IsDistinct}
use Rattle.std.proofs.lemmas.List.Elements.{All-head, All-tail}
use Rattle.std.specs.Cmp.Lexicographic.{bytes_decides}
use Rattle.std.proofs.lemmas.List.{length-map, length-append}
use Rattle.lean_items.specs.declared.coarse_row.CoarseRow.{CoarseRow}
use Rattle.exchange_hours.specs.Entries.{Entries}
use Rattle.exchange_hours.specs.Grid.{is_closing}
use Rattle.exchange_hours.specs.Sessions.{moment}
use Rattle.lean_orders.specs.declared.desk.Command.{Command}
use Rattle.lean_orders.specs.declared.desk.Command.TheVariants.{Match, Account}
use Rattle.rule_strategy.specs.declared.plan.Plan.{Plan}
use Rattle.rule_strategy.specs.declared.security.Security.{Security}
use Rattle.rule_strategy.specs.Securities.{symbols_of as plan_symbols}
use Rattle.rule_strategy.specs.Validity.{AreDistinct, IsPlan}
use Rattle.rule_strategy.specs.declared.universe.UniversePlan.{UniversePlan}
use Rattle.universe_rules.specs.Selected.{selected}
use Rattle.universe_state.specs.Active.{is_same, is_active}
use Rattle.universe_state.specs.Choice.{additions, room, most_active}
use Rattle.universe_state.specs.Different.{symbols_of}
use Rattle.universe_state.proofs.Joining.{added-once, added-new}
use Rattle.clock_steps.specs.Runs.{Ran, rests, before, run}
use Rattle.clock_book.specs.Seen.{seen_of}
use Rattle.clock_book.proofs.LearntLemmas.{commands_ids}
use Rattle.clock_run.specs.Known.{Known, World}
use Rattle.clock_run.specs.States.{Setup, Subscription, State, symbol_of, actives_of, actives, numbered, listed, joining, coarse_keys, opening}
use Rattle.clock_run.specs.Histories.{histories}
use Rattle.clock_run.specs.Requests.{requests}
use Rattle.clock_run.specs.Moments.{Part, in_turn, marked_as, chosen, selection, served, marks, most_requests, traded, closing, is_done_with, removals, parts_of, moment_of}
use Rattle.clock_run.specs.Reports.{step_of, moments}
use Rattle.clock_run.specs.Orderly.{IsOrderly}
use Rattle.clock_run.proofs.NumberLemmas.{rise-map, rise-append, rise-filter, rise-numbered, distinct-append, distinct-take, distinct-filter, inactive-apart, length-numbered, length-filter, room-left}
use Rattle.clock_run.proofs.EachLemmas.{each-through}
use Rattle.lean_fixed.specs.Moments.{first_moment}

-- a part, and a run of steps, keep what each of them keeps
module _ {S L Z : Type 0} (P : S → Type 0) where
  before-keeps : (first : Ran S L Z) (later : S → Ran S L Z) → P first.state → ((s : S) → P s → P (later s).state)
      → P (before first later).state
  before-keeps first later here on = by first.stop refl
    where
      by : (stop : Option Z) → first.stop ≡ stop → P (before first later).state
      by None is = subst (λ z. P (before (record { lines = first.lines; state = first.state; stop = z }) later).state) (sym is) (on first.state here)
      by (Some z) is = subst (λ z. P (before (record { lines = first.lines; state = first.state; stop = z }) later).state) (sym is) here

  pub run-keeps : (step : ℕ → S → Ran S L Z) → ((t : ℕ) (s : S) → P s → P (step t s).state) → (n from : ℕ) (s : S) → P s
      → P (run step n from s).state
  unfolding run
  run-keeps step keeps zero from s here = here
  run-keeps step keeps (suc n) from s here =
      before-keeps (step from s) (run step n (from + 1)) (keeps from s here) (run-keeps step keeps n (from + 1))

module _ (P : State → Type 0) where
  turn-keeps : (parts : List Part) → Each (λ part. (s : State) → P s → P (part s).state) parts → (s : State) → P s → P (in_turn parts s).state
  turn-keeps [] keep s here = here
  turn-keeps (part ∷ parts) keep s here =
      before-keeps P (part s) (in_turn parts) (keep.0 s here) (turn-keeps parts keep.1)

symbols-after : (f : Subscription → Subscription) → ((x : Subscription) → symbol_of (f x) ≡ symbol_of x) → (universe : UniversePlan) (t n : ℕ)
    (xs : List Subscription) (ys : List (List ℕ))
    → symbols_of (actives_of (map f xs ++ numbered (joining universe t) n ys)) ≡ symbols_of (actives_of xs) ++ ys
symbols-after f same universe t n [] ys = news n ys
  where
    news : (n : ℕ) (ys : List (List ℕ)) → symbols_of (actives_of (numbered (joining universe t) n ys)) ≡ ys
    news n [] = refl
    news n (y ∷ ys) = ap (λ rest. y ∷ rest) (news (n + 1) ys)
symbols-after f same universe t n (x ∷ xs) ys =
    ap (λ symbol. symbol ∷ symbols_of (actives_of (map f xs ++ numbered (joining universe t) n ys))) (same x)
    ∙ ap (λ rest. symbol_of x ∷ rest) (symbols-after f same universe t n xs ys)

each-of : {X : Type 0} (P : X → Type 0) (xs : List X) → All P xs → Each P xs
each-of P [] all = tt
each-of P (x ∷ xs) all = (All-head P x xs all, each-of P xs (All-tail P x xs all))

each-taken : {X : Type 0} (P : X → Type 0) (n : ℕ) (xs : List X) → Each P xs → Each P (take n xs)
each-taken P zero xs all = tt
each-taken P (suc n) [] all = tt
each-taken P (suc n) (x ∷ xs) all = (all.0, each-taken P n xs all.1)

symbols-map : (xs : List Subscription) → symbols_of (actives_of xs) ≡ map symbol_of xs
symbols-map [] = refl
symbols-map (x ∷ xs) = ap (λ rest. symbol_of x ∷ rest) (symbols-map xs)

-- the parts, one after the other
chosen-keeps : (plan : Plan) (universe : UniversePlan) (t : ℕ) (symbols : List (List ℕ)) (s : State) → IsOrderly plan s
    → IsOrderly plan (chosen universe t symbols s).state
chosen-keeps plan universe t symbols s o =
    let wanted = additions symbols (actives s) in
    let n = room (actives s) in
    let news = take n wanted in
    let old = map (marked_as symbols) s.securities in
    let joined = numbered (joining universe t) s.feeds news in
    let count : length (old ++ joined) ≡ length s.securities + length news =
    length-append old joined
    ∙ (ap (λ k. k + length joined) (length-map s.securities (marked_as symbols))
    ∙ ap (λ k. length s.securities + k) (length-numbered (joining universe t) s.feeds news)) in
    let active : length (actives s) ≡ length s.securities = length-map s.securities (λ security. security.active) in
    let room_is : n ≡ most_active - length s.securities = ap (λ k. most_active - k) active in
    let few : length s.securities + length news ≤ most_active =
    subst (λ k. length s.securities + length (take k wanted) ≤ most_active) (sym room_is)
    (room-left most_active (length s.securities) wanted o.few) in
    let apart = inactive-apart (actives s) news
    (each-taken (λ y. is_active (actives s) y ≡ false) n wanted (each-of (λ y. is_active (actives s) y ≡ false) wanted (added-new symbols (actives s)))) in
    record {
      numbers = rise-append (joining universe t) (λ k y. refl) _ s.feeds old news
          (rise-map (marked_as symbols) (λ x. refl) _ s.feeds s.securities o.numbers);
      symbols = subst (IsDistinct is_same) (sym (symbols-after (marked_as symbols) (λ x. refl) universe t s.feeds s.securities news))
          (distinct-append (symbols_of (actives s)) news o.symbols (distinct-take n wanted (added-once symbols (actives s))) apart);
      few = subst (λ k. k ≤ most_active) (sym count) few;
      requests = o.requests;
      ids = o.ids;
    }

selection-keeps : (plan : Plan) (universe : Option UniversePlan) (t : ℕ) (rows : List CoarseRow) (s : State) → IsOrderly plan s
    → IsOrderly plan (selection universe t rows s).state
selection-keeps plan None t rows s o = o
selection-keeps plan (Some universe) t [] s o = o
selection-keeps plan (Some universe) t (row ∷ rows) s o = chosen-keeps plan universe t (selected (row ∷ rows) universe.rule) s o

served-keeps : (plan : Plan) (t : ℕ) (commands : List Command) (s : State) → IsOrderly plan s → IsOrderly plan (served t commands s).state
served-keeps plan t commands s o = record {
  numbers = o.numbers;
  symbols = o.symbols;
  few = o.few;
  requests = o.requests;
  ids = commands_ids s.book commands o.ids;
}

traded-keeps : (plan : Plan) (t : ℕ) (asked : List Command) (s : State) → IsOrderly plan s → IsOrderly plan (traded t asked s).state
traded-keeps plan t asked s o = record {
  numbers = o.numbers;
  symbols = o.symbols;
  few = o.few;
  requests = room-left most_requests s.requests asked o.requests;
  ids = commands_ids s.book (take (most_requests - s.requests) asked) o.ids;
}

closing-keeps : (plan : Plan) (hours : Entries) (t : ℕ) (s : State) → IsOrderly plan s → IsOrderly plan (closing hours t s).state
closing-keeps plan hours t s o = by (is_closing hours t)
  where
    by : (b : Bool) → IsOrderly plan (if b then served t (Account (moment t) ∷ []) s else rests s).state
    by true = served-keeps plan t (Account (moment t) ∷ []) s o
    by false = o

removals-keeps : (plan : Plan) (t : ℕ) (s : State) → IsOrderly plan s → IsOrderly plan (removals t s).state
removals-keeps plan t s o =
    let p = λ (security : Subscription). not (is_done_with (seen_of s.book) security) in
    record {
      numbers = rise-filter p _ s.feeds s.securities o.numbers;
      symbols = subst (IsDistinct is_same) (sym (symbols-map (filter p s.securities)))
          (distinct-filter symbol_of p s.securities (subst (IsDistinct is_same) (symbols-map s.securities) o.symbols));
      few = let le : length (filter p s.securities) ≤ length s.securities = length-filter p s.securities in omega (arith, le, o.few);
      requests = o.requests;
      ids = o.ids;
    }

pub moment-keeps : (setup : Setup) (t : ℕ) (known : Known) (s : State) → IsOrderly setup.plan s
    → IsOrderly setup.plan (moment_of setup t known s).state
unfolding moment_of
moment-keeps setup t known s o =
    turn-keeps (IsOrderly setup.plan) (parts_of setup t known) (
      selection-keeps setup.plan setup.plan.universe t known.coarse,
      (
        (λ s. served-keeps setup.plan t (marks t (histories known s) ++ Match (moment t) ∷ []) s),
        (
          (λ s. traded-keeps setup.plan t (requests setup.plan.rules (seen_of s.book) t (histories known s)) s),
          (
            closing-keeps setup.plan setup.hours t,
            (
              removals-keeps setup.plan t,
              ((λ s o. o), tt),
            ),
          ),
        ),
      ),
    )
    s o

-- the opening state of a plan that was read
listed-symbols : (start n : ℕ) (xs : List Security) → symbols_of (actives_of (numbered (listed start) n xs)) ≡ plan_symbols xs
listed-symbols start n [] = refl
listed-symbols start n (x ∷ xs) = ap (λ rest. x.symbol ∷ rest) (listed-symbols start (n + 1) xs)

other-symbol : (a b : List ℕ) → a ≢ b → is_same a b ≡ false
other-symbol a b differ = by (is_same a b) refl
  where
    by : (answer : Bool) → is_same a b ≡ answer → is_same a b ≡ false
    by true same = absurd (differ ((bytes_decides a b).0 same))
    by false other = other

distinct-same : (xs : List (List ℕ)) → AreDistinct xs → IsDistinct is_same xs
unfolding IsDistinct
distinct-same [] distinct = tt
distinct-same (x ∷ xs) distinct =
    (each-through xs (λ y differ. other-symbol x y differ) (each-of (λ other. x ≢ other) xs distinct.0), distinct-same xs distinct.1)

pub opening-orderly : (setup : Setup) → IsPlan setup.plan → IsOrderly setup.plan (opening setup)
opening-orderly setup valid =
    let k = length (coarse_keys setup.plan) in
    let start = first_moment setup.plan.window in
    let xs = setup.plan.securities in
    record {
      numbers = rise-numbered (listed start) (λ n x. refl) k k xs (omega arith);
      symbols = subst (IsDistinct is_same) (sym (listed-symbols start k xs)) (distinct-same (plan_symbols xs) valid.distinct);
      few = subst (λ n. n ≤ most_active) (sym (length-numbered (listed start) k xs)) valid.listed;
      requests = omega arith;
      ids = tt;
    }

pub moments-orderly : (setup : Setup) (world : World) (count : ℕ) → IsPlan setup.plan → IsOrderly setup.plan (moments setup world count).state
moments-orderly setup world count valid =
    run-keeps (IsOrderly setup.plan) (step_of setup world) (λ t s o. moment-keeps setup t (world t) s o) count
    (first_moment setup.plan.window) (opening setup) (opening-orderly setup valid)
