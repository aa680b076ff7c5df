-- What holds of every state of a backtest.
use Rattle.std.specs.Prelude.{ℕ, ◌+◌, ◌≤◌, List, [], ◌∷◌, length}
use Rattle.rule_strategy.specs.declared.plan.Plan.{Plan}
use Rattle.universe_state.specs.Choice.{most_active}
use Rattle.universe_state.specs.Different.{AreDifferent}
use Rattle.clock_book.specs.Seen.{AreNumbered}
use Rattle.clock_run.specs.States.{Subscription, State, coarse_keys, actives}
use Rattle.clock_run.specs.Moments.{most_requests}

abbrev pub number_of : Subscription → ℕ
number_of security = security.active.feed.0

-- the numbers of the feeds rise from one on, and lie before another
abbrev pub NumbersRise : ℕ → ℕ → List Subscription → Type 0
NumbersRise from until [] = from ≤ until
NumbersRise from until (security ∷ securities) =
    (from ≤ number_of security) × NumbersRise (number_of security + 1) until securities

-- Behind the coarse feed the numbers of the active feeds rise, and those to come lie past them; the symbols of the active
-- securities differ; there are at most 256 of them, and at most 1,000,000 requests were handled; ids count the orders.
pub record IsOrderly (plan : Plan) (s : State) : Type 0 where
  pub numbers : NumbersRise (length (coarse_keys plan)) s.feeds s.securities
  pub symbols : AreDifferent (actives s)
  pub few : length s.securities ≤ most_active
  pub requests : s.requests ≤ most_requests
  pub ids : AreNumbered 1 s.book.orders
