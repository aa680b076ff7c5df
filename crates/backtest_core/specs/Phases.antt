-- The commands of a phase: which they are, and how many more may come.
use Rattle.std.specs.Prelude.{◌≡◌, ℕ, ◌+◌, ◌-◌, ℤ, Bool, true, false, List, [], ◌∷◌, Option, Some, None}
use Rattle.std.specs.List.{AllByRecursion as Each, AllByRecursion-prop}
use Rattle.std.proofs.Props.{props}
use Rattle.lean_orders.specs.declared.desk.Command.{Command}
use Rattle.lean_orders.specs.declared.desk.Command.TheVariants.{Mark, Match, Submit, Update, Cancel, Account}
use Rattle.clock_book.specs.Fitting.{IsFitting}
use Rattle.clock_run.specs.Moments.{most_requests}
use Rattle.universe_state.specs.Choice.{most_active}
use Rattle.backtest_core.specs.declared.phase.Phase.{Phase}
use Rattle.backtest_core.specs.declared.phase.Phase.TheVariants.{Prices, Rules, Close}

-- what a rule asks for
abbrev pub is_request : Command → Bool
is_request (Mark at symbol bar) = false
is_request (Match at) = false
is_request (Submit at request) = true
is_request (Update at id price) = true
is_request (Cancel at id) = true
is_request (Account at) = false

abbrev pub time_of : Command → ℤ
time_of (Mark at symbol bar) = at.0
time_of (Match at) = at.0
time_of (Submit at request) = at.0
time_of (Update at id price) = at.0
time_of (Cancel at id) = at.0
time_of (Account at) = at.0

-- the rules ask in their own phase
abbrev pub asks_in : Option Phase → Bool
asks_in None = false
asks_in (Some Prices) = false
asks_in (Some Rules) = true
asks_in (Some Close) = false

-- a command of a phase at a moment: its numbers are in their ranges
pub record IsOf (at : ℤ) (asks : Bool) (command : Command) : Type 0 where
  pub fitting : IsFitting command
  pub time : time_of command ≡ at
  pub kind : is_request command ≡ asks

-- How many commands beside requests may still come at a moment, of whose phase some are left; and how many requests in all,
-- behind some that were given.
abbrev pub most_others : ℕ
most_others = most_active + 2

abbrev pub others_left : Option Phase → ℕ → ℕ
others_left None left = most_others
others_left (Some Prices) left = left + 1
others_left (Some Rules) left = 1
others_left (Some Close) left = left

abbrev pub requests_left : ℕ → ℕ
requests_left given = most_requests - given

-- at most so many are left of a phase
abbrev pub most_left : Option Phase → ℕ → ℕ
most_left None given = 0
most_left (Some Prices) given = most_active + 1
most_left (Some Rules) given = most_requests - given
most_left (Some Close) given = 1

-- the commands that are left of some, behind those that were given
abbrev pub rest_of : List Command → List Command
rest_of [] = []
rest_of (c ∷ cs) = cs

-- all commands of a phase are sound
pub IsFitting-prop : (command : Command) → IsProp (IsFitting command)
IsFitting-prop (Mark at symbol bar) = hlevel props
IsFitting-prop (Match at) = hlevel props
IsFitting-prop (Submit at request) = hlevel props
IsFitting-prop (Update at id price) = hlevel props
IsFitting-prop (Cancel at id) = hlevel props
IsFitting-prop (Account at) = hlevel props

pub IsOf-prop : (at : ℤ) (asks : Bool) (command : Command) → IsProp (IsOf at asks command)
IsOf-prop at asks command = hlevel (props, IsFitting-prop)

abbrev pub AreOf : ℤ → Bool → List Command → Type 0
AreOf at asks commands = Each (IsOf at asks) commands

pub AreOf-prop : (at : ℤ) (asks : Bool) (commands : List Command) → IsProp (AreOf at asks commands)
AreOf-prop at asks commands = AllByRecursion-prop (IsOf at asks) (IsOf-prop at asks) commands
