-- What a call of a desk changes: the commands that were submitted, the replies that were heard, and their numbers.
use Rattle.std.specs.Prelude.{◌≡◌, ℕ, ◌+◌, ◌-◌, ◌*◌, ◌<◌, true, if◌then◌else◌, List, [], ◌∷◌, ◌++◌, length, Option, Some, None, Result, Ok, Err}
use Rattle.lean_fixed.specs.declared.memory.NoMemory.{NoMemory}
use Rattle.lean_orders.specs.declared.desk.Command.{Command}
use Rattle.lean_orders.specs.declared.desk.Heard.{Heard}
use Rattle.lean_orders.specs.declared.desk.Reply.{Reply}
use Rattle.lean_orders.specs.declared.desk.Ticket.{Ticket}
use Rattle.clock_book.specs.Books.{Book}
use Rattle.clock_book.specs.Handled.{after}
use Rattle.order_desk.specs.Served.{is_done, dones, is_closed}

-- the commands that were submitted after the answer to one more
abbrev pub with_command : List Command → Command → Result Ticket NoMemory → List Command
with_command cs command (Ok ticket) = cs ++ command ∷ []
with_command cs command (Err e) = cs

-- the replies that were heard after an answer
abbrev pub with_heard : List Reply → Result (Option Heard) NoMemory → List Reply
with_heard rs (Ok (Some heard)) = rs ++ heard.reply ∷ []
with_heard rs (Ok None) = rs
with_heard rs (Err e) = rs

-- A reply is heard of the next ticket that is not done, and none is heard exactly where all tickets are done.
abbrev pub IsDue : ℕ → ℕ → Option Heard → Type 0
IsDue submitted answered (Some heard) = (heard.ticket.0 ≡ answered + 1) × (answered < submitted)
IsDue submitted answered None = answered ≡ submitted

-- how many tickets are done behind a reply
abbrev pub answered_behind : ℕ → Option Heard → ℕ
answered_behind answered (Some heard) = if is_done heard.reply then answered + 1 else answered
answered_behind answered None = answered

-- how many replies were heard of the ticket that is not done, behind one more
abbrev pub told_after : ℕ → Reply → ℕ
told_after told reply = if is_done reply then 0 else told + 1

abbrev pub told_behind : ℕ → Option Heard → ℕ
told_behind told (Some heard) = told_after told heard.reply
told_behind told None = told

-- the most replies to one command before its `Done`
abbrev pub most_told : ℕ
most_told = 1000000

-- how many replies can still be heard where so many commands were submitted, so many of them are done, and of the next so many
-- replies were heard
abbrev pub room_of : ℕ → ℕ → ℕ → ℕ
room_of submitted answered told = (submitted - answered) * (most_told + 1) - told

-- The numbers of a desk are those of the book with which it began, the commands that were submitted and the replies that were
-- heard; and where `Done` was heard of every command, it is the last reply.
pub record Counts (n orders answered : ℕ) (s : Book) (cs : List Command) (rs : List Reply) : Type 0 where
  pub submitted : n ≡ length cs
  pub ordered : orders ≡ length (after s cs).orders
  pub done : answered ≡ dones rs
  pub closed : answered ≡ n → is_closed rs ≡ true
