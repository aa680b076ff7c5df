-- Where a security waits.
use Rattle.std.specs.Prelude.{◌≡◌, ℕ, ◌<◌, ◌+◌, List, ◌++◌, length, take, drop, get_or, find, Some}
use Rattle.backtest_core.specs.declared.waiting.Waiting.{Waiting}
use Rattle.backtest_core.specs.Standing.{waits_as, without_first}
use Rattle.backtest_core.specs.Waiting.{subscription_in, subscriptions_in}

-- the first of a symbol waits at a place
pub record IsPlaceOf (symbol : List ℕ) (waiting : List Waiting) (place : ℕ) : Type 0 where
  pub within : place < length waiting
  pub first : (d : Waiting) → find (waits_as symbol) (subscriptions_in waiting) ≡ Some (subscription_in (get_or waiting place d))
  pub rest : without_first symbol (subscriptions_in waiting) ≡ subscriptions_in (take place waiting ++ drop (place + 1) waiting)
