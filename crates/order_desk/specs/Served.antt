-- What was heard of some commands, and when it is what a book replies to them.
use Rattle.std.specs.Prelude.{◌≡◌, ℕ, Bool, true, false, List, [], ◌∷◌, ◌++◌, length}
use Rattle.std.specs.List.{filter}
use Rattle.lean_orders.specs.declared.desk.Reply.{Reply}
use Rattle.lean_orders.specs.declared.desk.Reply.TheVariants.{Event, Account, Done}
use Rattle.lean_orders.specs.declared.desk.Command.{Command}
use Rattle.clock_book.specs.Books.{Book}
use Rattle.clock_book.specs.Handled.{replies}

abbrev pub is_done : Reply → Bool
is_done (Event event) = false
is_done (Account cash equity) = false
is_done Done = true

-- how many commands are done by some replies
abbrev pub dones : List Reply → ℕ
dones rs = length (filter is_done rs)

-- no command is done in part: there is no reply, or the last one is `Done`
abbrev pub is_closed : List Reply → Bool
is_closed [] = true
is_closed (r ∷ []) = is_done r
is_closed (r ∷ x ∷ rest) = is_closed (x ∷ rest)

-- by these replies each of the commands is done, and nothing stands behind the last `Done`
pub record Served (cs : List Command) (rs : List Reply) : Type 0 where
  pub each : dones rs ≡ length cs
  pub closed : is_closed rs ≡ true

-- replies that begin what a book replies to some commands
abbrev pub IsFront : Book → List Command → List Reply → Type 0
IsFront s cs rs = (rest : List Reply) × (replies s cs ≡ rs ++ rest)

-- replies that begin what a book replies to these commands and to others that follow them
abbrev pub IsRight : Book → List Command → List Reply → Type 0
IsRight s cs rs = (later : List Command) × IsFront s (cs ++ later) rs
