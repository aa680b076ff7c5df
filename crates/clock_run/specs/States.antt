-- The state of a backtest between two moments.
use Rattle.std.specs.Prelude.{ℕ, ◌+◌, ◌-◌, ℤ, Bool, true, false, List, [], ◌∷◌, ◌++◌, length, map, Option, Some, None}
use Rattle.lean_fixed.specs.declared.resolution.Resolution.{Resolution}
use Rattle.lean_fixed.specs.declared.time.Window.{Window}
use Rattle.lean_fixed.specs.Moments.{first_moment}
use Rattle.lean_items.specs.declared.feed_key.FeedKey.{FeedKey}
use Rattle.lean_items.specs.declared.feed_key.FeedKind.TheVariants.{Coarse, Equity}
use Rattle.exchange_hours.specs.Entries.{Entries}
use Rattle.exchange_hours.specs.Sessions.{moment}
use Rattle.universe_state.specs.Active.{Active}
use Rattle.clock_book.specs.Books.{Book, new_book}
use Rattle.rule_strategy.specs.declared.plan.Plan.{Plan}
use Rattle.rule_strategy.specs.declared.security.Security.{Security}
use Rattle.rule_strategy.specs.declared.universe.UniversePlan.{UniversePlan}

-- what a backtest is run with
pub record Setup : Type 0 where
  pub plan : Plan
  pub hours : Entries

-- an active security: its symbol, the number of its feed, whether the plan lists it and whether it is marked; what its feed
-- reads; and the period of its bars where it has one
pub record Subscription : Type 0 where
  pub active : Active
  pub key : FeedKey
  pub period : Option ℕ

-- The active securities in the order of their numbers, how many feeds were ever added, the book, how many requests were
-- handled, and the equities of the close lines.
pub record State : Type 0 where
  pub securities : List Subscription
  pub feeds : ℕ
  pub book : Book
  pub requests : ℕ
  pub equities : List ℤ

abbrev pub symbol_of : Subscription → List ℕ
symbol_of security = security.active.symbol

abbrev pub actives_of : List Subscription → List Active
actives_of securities = map (λ security. security.active) securities

abbrev pub actives : State → List Active
actives s = actives_of s.securities

-- things by the numbers from n on
abbrev pub numbered : {A B : Type 0} → (ℕ → A → B) → ℕ → List A → List B
numbered f n [] = []
numbered f n (x ∷ xs) = f n x ∷ numbered f (n + 1) xs

-- a feed of a security that gives what ends past a moment
abbrev pub equity_key : ℕ → List ℕ → Resolution → Bool → FeedKey
equity_key start symbol resolution fill =
    record { kind = Equity symbol resolution; start = moment start; fill = fill }

-- a security that the plan lists, from the first moment on
abbrev pub listed : ℕ → ℕ → Security → Subscription
listed start number security = record {
  active = record { symbol = security.symbol; feed = record { 0 = number }; listed = true; marked = false };
  key = equity_key start security.symbol security.resolution security.fill;
  period = security.period;
}

-- a security of the universe, from the moment of its choice on
abbrev pub joining : UniversePlan → ℕ → ℕ → List ℕ → Subscription
joining universe t number symbol = record {
  active = record { symbol = symbol; feed = record { 0 = number }; listed = false; marked = false };
  key = equity_key t symbol universe.resolution universe.fill;
  period = universe.period;
}

-- the coarse files of the days before those of the window
abbrev pub coarse_key : Window → FeedKey
coarse_key window = record { kind = Coarse; start = moment (first_moment window - 1); fill = false }

abbrev pub coarse_keys_for : Window → Option UniversePlan → List FeedKey
coarse_keys_for window None = []
coarse_keys_for window (Some universe) = coarse_key window ∷ []

abbrev pub coarse_keys : Plan → List FeedKey
coarse_keys plan = coarse_keys_for plan.window plan.universe

-- the coarse feed comes first where there is a universe, and then the listed securities
abbrev pub opening : Setup → State
opening setup = record {
  securities = numbered (listed (first_moment setup.plan.window)) (length (coarse_keys setup.plan)) setup.plan.securities;
  feeds = length (coarse_keys setup.plan) + length setup.plan.securities;
  book = new_book setup.plan.cash.0 setup.plan.costs setup.plan.leverage setup.hours;
  requests = 0;
  equities = [];
}

-- the keys of the feeds that are active, in the order of their numbers
abbrev pub active_keys : Plan → State → List FeedKey
active_keys plan s = coarse_keys plan ++ map (λ security. security.key) s.securities
