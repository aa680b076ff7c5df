-- A small pipeline, on which the definitions are computed: a Monday, 2013-10-07, on which the session is its first minute, a
-- universe over a folder without files, and room for one item in each lane.
use Rattle.std.specs.Prelude.{pos, true, false, List, [], ◌∷◌, ◌++◌, Some, None}
use Rattle.exchange_hours.specs.Entries.{Entries}
use Rattle.exchange_hours.specs.Sessions.{moment}
use Rattle.lean_orders.specs.declared.desk.Command.{Command}
use Rattle.lean_orders.specs.declared.desk.Command.TheVariants.{Match, Account as AskAccount}
use Rattle.lean_orders.specs.declared.desk.Reply.{Reply}
use Rattle.lean_orders.specs.declared.desk.Reply.TheVariants.{Account}
use Rattle.clock_run.specs.Worked.{plan_of, top}
use Rattle.clock_pipeline.specs.Pipelines.{Pipeline, State, opening}
use Rattle.clock_pipeline.specs.Steps.{Step, produces, takes, asks, serves, answers, hears, closes, after_steps}

abbrev pub short_hours : Entries
short_hours = record {
  segments = record { weekday = 1; is_market = true; start = 0; end = 1 } ∷ [];
  holidays = [];
  early_closes = [];
}

abbrev pub small : Pipeline
small = record {
  setup = record { plan = plan_of 1 100000 0 [] (Some (top 2)) []; hours = short_hours };
  files = λ path. None;
  rooms = record { feeds = 1; commands = 1; replies = 1 };
}

abbrev pub state_after : List Step → State
state_after steps = after_steps small steps (opening small)

-- the end of the coarse feed is sent and taken
abbrev pub fed : List Step
fed = produces 0 false ∷ takes 0 ∷ []

-- a command is asked and served, and one reply to it is sent and heard
abbrev pub passed : List Step
passed = asks ∷ serves ∷ answers ∷ hears ∷ []

abbrev pub replied : List Step
replied = answers ∷ hears ∷ []

-- the first moment has one command with one reply; the next closes the session, with two commands and three replies
abbrev pub first_closed : List Step
first_closed = fed ++ passed ++ closes ∷ []

abbrev pub second_heard : List Step
second_heard = first_closed ++ passed ++ passed ++ replied

-- two commands and a reply
abbrev pub try_orders : Command
try_orders = Match (moment 1)

abbrev pub ask_sums : Command
ask_sums = AskAccount (moment 1)

abbrev pub sums : Reply
sums = Account (record { 0 = pos 7 }) (record { 0 = pos 8 })
