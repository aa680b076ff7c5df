-- The keys of the active securities: each is of a security, with a period of its resolution, and a malformed line that is due
-- in one of their lists is one at which its feed is blocked.
use Rattle.std.proofs.Common.{◌≡◌, ℕ, ◌+◌, List, [], ◌∷◌, ◌++◌, Bool, true, false, refl, ap, sym, subst, ◌∙◌}
use Rattle.std.specs.Prelude.{pos, Option, Some, None, option_map, if◌then◌else◌, map, filter, cond}
use Rattle.std.specs.List.{All}
use Rattle.std.specs.Option.{option_or}
use Rattle.std.proofs.lemmas.List.{map-append}
use Rattle.std.proofs.lemmas.List.Elements.{All-head, All-tail}
use Rattle.lean_items.specs.declared.bad.Bad.{Bad}
use Rattle.lean_items.specs.declared.coarse_row.CoarseRow.{CoarseRow}
use Rattle.lean_items.specs.declared.feed_key.FeedKey.{FeedKey}
use Rattle.lean_items.specs.declared.item.Item.{Item}
use Rattle.exchange_hours.specs.Entries.{Entries}
use Rattle.exchange_hours.specs.Grid.{is_closing}
use Rattle.exchange_hours.specs.Sessions.{moment}
use Rattle.lean_orders.specs.declared.desk.Command.TheVariants.{Account}
use Rattle.rule_strategy.specs.declared.security.Security.{Security}
use Rattle.rule_strategy.specs.declared.universe.UniversePlan.{UniversePlan}
use Rattle.rule_strategy.specs.Validity.{IsPeriod, IsSecurity, IsUniverseIf}
use Rattle.universe_rules.specs.Selected.{selected}
use Rattle.clock_steps.specs.Runs.{rests}
use Rattle.clock_run.specs.Known.{Known, World}
use Rattle.clock_run.specs.Lines.{malformed as clock_malformed}
use Rattle.clock_run.specs.States as clock
use Rattle.clock_run.specs.States.{Setup, coarse_keys, numbered as each_numbered, listed, joining, active_keys}
use Rattle.clock_run.specs.Moments.{marked_as, added_to, selection, served, closing, first_refused}
use Rattle.clock_run.proofs.EachLemmas.{each-append}
use Rattle.backtest_core.specs.Standing.{followed_of}
use Rattle.backtest_core.specs.Made.{traded_on, left_behind}
use Rattle.backtest_engine.specs.Algorithms.{subscribed, active_of, own_of}
use Rattle.backtest_engine.specs.Lists.{refused}
use Rattle.backtest_engine.specs.Meaning.{Subscription}
use Rattle.backtest_engine.specs.Tells.{Tells}
use Rattle.backtest_engine.specs.Turns.{numbered}
use Rattle.backtest_engine.proofs.RunsTies.{IsKeyed, AreKeyed}

pub keyed-opening : (start n : ℕ) (securities : List Security) → All IsSecurity securities → AreKeyed (each_numbered (listed start) n securities)
keyed-opening start n [] sound = tt
keyed-opening start n (x ∷ xs) sound =
    ((All-head IsSecurity x xs sound).period, keyed-opening start (n + 1) xs (All-tail IsSecurity x xs sound))

keyed-joining : (universe : UniversePlan) → IsPeriod universe.resolution universe.period → (t n : ℕ) (symbols : List (List ℕ))
    → AreKeyed (each_numbered (joining universe t) n symbols)
keyed-joining universe period t n [] = tt
keyed-joining universe period t n (y ∷ ys) = (period, keyed-joining universe period t (n + 1) ys)

keyed-marked : (symbols : List (List ℕ)) (xs : List clock.Subscription) → AreKeyed xs → AreKeyed (map (marked_as symbols) xs)
keyed-marked symbols [] keyed = tt
keyed-marked symbols (x ∷ xs) keyed = (keyed.0, keyed-marked symbols xs keyed.1)

keyed-filter : (p : clock.Subscription → Bool) (xs : List clock.Subscription) → AreKeyed xs → AreKeyed (filter p xs)
keyed-filter p [] keyed = tt
keyed-filter p (x ∷ xs) keyed = by (p x) (keyed-filter p xs keyed.1)
  where
    by : (b : Bool) → AreKeyed (filter p xs) → AreKeyed (cond b (x ∷ filter p xs) (filter p xs))
    by true more = (keyed.0, more)
    by false more = more

keyed-added : (universe : UniversePlan) → IsPeriod universe.resolution universe.period → (t : ℕ) (symbols news : List (List ℕ)) (s : clock.State)
    → AreKeyed s.securities → AreKeyed (added_to universe t symbols news s).securities
keyed-added universe period t symbols news s keyed =
    each-append (λ x. IsKeyed x.key.kind x.period) (map (marked_as symbols) s.securities) (each_numbered (joining universe t) s.feeds news)
    (keyed-marked symbols s.securities keyed) (keyed-joining universe period t s.feeds news)

pub keyed-selection : (universe : Option UniversePlan) → IsUniverseIf universe → (t : ℕ) (rows : List CoarseRow) (s : clock.State) → AreKeyed s.securities
    → AreKeyed (selection universe t rows s).state.securities
keyed-selection None sound t rows s keyed = keyed
keyed-selection (Some universe) sound t [] s keyed = keyed
keyed-selection (Some universe) sound t (row ∷ rows) s keyed =
    keyed-added universe sound.period t (selected (row ∷ rows) universe.rule) _ s keyed

closing-securities : (hours : Entries) (t : ℕ) (s : clock.State) → (closing hours t s).state.securities ≡ s.securities
closing-securities hours t s = by (is_closing hours t)
  where
    by : (b : Bool) → (if b then served t (Account (moment t) ∷ []) s else rests s).state.securities ≡ s.securities
    by true = refl
    by false = refl

pub keyed-behind : (setup : Setup) (t : ℕ) (known : Known) (s : clock.State) → AreKeyed s.securities → AreKeyed (left_behind setup t known s).securities
keyed-behind setup t known s keyed =
    keyed-filter _ _ (subst AreKeyed (sym (closing-securities setup.hours t (traded_on setup t known s))) keyed)

-- a selection leaves the book and the equities
pub selection-book : (universe : Option UniversePlan) (t : ℕ) (rows : List CoarseRow) (s : clock.State) → (selection universe t rows s).state.book ≡ s.book
selection-book None t rows s = refl
selection-book (Some universe) t [] s = refl
selection-book (Some universe) t (row ∷ rows) s = refl

pub selection-equities : (universe : Option UniversePlan) (t : ℕ) (rows : List CoarseRow) (s : clock.State) → (selection universe t rows s).state.equities ≡ s.equities
selection-equities None t rows s = refl
selection-equities (Some universe) t [] s = refl
selection-equities (Some universe) t (row ∷ rows) s = refl

-- ---- refusals

module _ (setup : Setup) (world : World) (lists : FeedKey → List Item) (tells : Tells setup world lists) (t : ℕ) where
  refused-first : (fs : List Subscription) → option_map (λ (r : FeedKey × Bad). clock_malformed r.0.kind r.1) (refused lists (pos t) fs) ≡ first_refused (world t) (map (λ f. f.key) fs)
  refused-first [] = refl
  refused-first (f ∷ fs) =
      ap (λ o. option_map (λ (r : FeedKey × Bad). clock_malformed r.0.kind r.1) (option_or (option_map (λ bad. (f.key, bad)) o) (refused lists (pos t) fs))) (tells.blocked f.key t)
      ∙ by ((world t).blocked f.key) (refused-first fs)
    where
      by : (o : Option Bad) → option_map (λ (r : FeedKey × Bad). clock_malformed r.0.kind r.1) (refused lists (pos t) fs) ≡ first_refused (world t) (map (λ f. f.key) fs)
          → option_map (λ (r : FeedKey × Bad). clock_malformed r.0.kind r.1) (option_or (option_map (λ bad. (f.key, bad)) o) (refused lists (pos t) fs))
          ≡ option_or (option_map (clock_malformed f.key.kind) o) (first_refused (world t) (map (λ f. f.key) fs))
      by None later = later
      by (Some bad) later = refl

  numbered-keys : (n : ℕ) (keys : List FeedKey) → map (λ (f : Subscription). f.key) (numbered n keys) ≡ keys
  numbered-keys n [] = refl
  numbered-keys n (key ∷ keys) = ap (λ more. key ∷ more) (numbered-keys (n + 1) keys)

  followed-keys : (known : Known) (xs : List clock.Subscription) → map (λ (f : Subscription). f.key) (map subscribed (map (followed_of known) xs)) ≡ map (λ x. x.key) xs
  followed-keys known [] = refl
  followed-keys known (x ∷ xs) = ap (λ more. x.key ∷ more) (followed-keys known xs)

  keys-are : (known : Known) (s : clock.State) → map (λ (f : Subscription). f.key) (active_of (own_of setup s known)) ≡ active_keys setup.plan s
  keys-are known s =
      map-append (λ (f : Subscription). f.key) (numbered 0 (coarse_keys setup.plan)) (map subscribed (map (followed_of known) s.securities))
      ∙ (λ j. numbered-keys 0 (coarse_keys setup.plan) j ++ followed-keys known s.securities j)

  pub refused-is : (known : Known) (s : clock.State)
      → option_map (λ (r : FeedKey × Bad). clock_malformed r.0.kind r.1) (refused lists (pos t) (active_of (own_of setup s known)))
      ≡ first_refused (world t) (active_keys setup.plan s)
  refused-is known s = refused-first (active_of (own_of setup s known)) ∙ ap (first_refused (world t)) (keys-are known s)
