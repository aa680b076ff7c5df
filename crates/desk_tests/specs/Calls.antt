-- What a caller submits to a desk and hears of it.
use Rattle.std.specs.Prelude.{ℕ, ◌+◌, if◌then◌else◌, List, [], ◌∷◌, map}
use Rattle.lean_orders.specs.declared.desk.Command.{Command}
use Rattle.lean_orders.specs.declared.desk.Heard.{Heard}
use Rattle.lean_orders.specs.declared.desk.Reply.{Reply}
use Rattle.clock_book.specs.Fitting.{submits}
use Rattle.order_desk.specs.Served.{is_done}

-- the orders that some commands make
abbrev pub orders_of : List Command → ℕ
orders_of [] = 0
orders_of (c ∷ cs) = submits c + orders_of cs

abbrev pub reply_of : Heard → Reply
reply_of heard = heard.reply

-- what was heard, without the tickets
abbrev pub replies_of : List Heard → List Reply
replies_of heard = map reply_of heard

-- replies with the tickets of their commands, of which the first has this number
abbrev pub ticketed : ℕ → List Reply → List Heard
ticketed n [] = []
ticketed n (r ∷ rs) = record { ticket = record { 0 = n }; reply = r } ∷ ticketed (if is_done r then n + 1 else n) rs
