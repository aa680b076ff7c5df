-- Replies that are told apart by the commands that they answer: `Done` is the last reply to each.
use Rattle.std.specs.Prelude.{ℕ, zero, suc, List, [], ◌∷◌}
use Rattle.lean_orders.specs.declared.desk.Reply.{Reply}
use Rattle.lean_orders.specs.declared.desk.Reply.TheVariants.{Event, Account, Done}

-- how many commands are done by a reply and others behind it, where these do n
abbrev pub with_done : Reply → ℕ → ℕ
with_done (Event event) n = n
with_done (Account cash equity) n = n
with_done Done n = suc n

-- how many commands are done by some replies
abbrev pub dones : List Reply → ℕ
dones [] = 0
dones (reply ∷ replies) = with_done reply (dones replies)

-- of how many commands more is awaited behind a reply, where it was awaited of one more than n before it
abbrev pub awaited : ℕ → Reply → ℕ
awaited n (Event event) = suc n
awaited n (Account cash equity) = suc n
awaited n Done = n

-- the replies to so many commands, and those behind them
abbrev pub replies_to : ℕ → List Reply → List Reply
replies_to zero replies = []
replies_to (suc n) [] = []
replies_to (suc n) (reply ∷ replies) = reply ∷ replies_to (awaited n reply) replies

abbrev pub replies_behind : ℕ → List Reply → List Reply
replies_behind zero replies = replies
replies_behind (suc n) [] = []
replies_behind (suc n) (reply ∷ replies) = replies_behind (awaited n reply) replies
