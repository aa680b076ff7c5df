-- What a core still may give: the commands that are left of a phase, and the numbers of those to come.
use Rattle.std.specs.Prelude.{ℕ, ◌+◌, ◌≤◌, List, length, drop, if◌then◌else◌}
use Rattle.lean_orders.specs.declared.desk.Command.{Command}
use Rattle.backtest_core.specs.declared.commands.Commands.{Commands}
use Rattle.backtest_core.specs.Phases.{is_request, others_left, requests_left}

abbrev pub left_in : Commands → List Command
left_in c = drop c.given c.list.items

-- how many commands beside requests may still come at the moment, and how many requests in all
abbrev pub others_in : Commands → ℕ
others_in c = others_left c.phase (length (left_in c))

abbrev pub requests_in : Commands → ℕ
requests_in c = requests_left c.requests

-- a command is given: there is room for one less
pub record Spends (old new : Commands) (command : Command) : Type 0 where
  pub others : others_in new + (if is_request command then 0 else 1) ≤ others_in old
  pub requests : requests_in new + (if is_request command then 1 else 0) ≤ requests_in old
