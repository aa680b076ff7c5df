-- A reply to compute on.
use Rattle.std.specs.Prelude.{pos}
use Rattle.lean_orders.specs.declared.desk.Reply.{Reply}
use Rattle.lean_orders.specs.declared.desk.Reply.TheVariants.{Account}

-- an account of 7 units of cash and 8 of equity
abbrev pub account : Reply
account = Account (record { 0 = pos 7 }) (record { 0 = pos 8 })
