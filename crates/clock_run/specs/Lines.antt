-- The lines of a backtest, and what may halt it. Each line ends with an LF, and its parts are joined by one space.
use Rattle.std.specs.Prelude.{ℕ, ℤ, List, [], ◌∷◌, ◌++◌, codes}
use Rattle.lean_fixed.specs.Printed.{money_text, moment_text}
use Rattle.lean_items.specs.declared.bad.Bad.{Bad}
use Rattle.lean_items.specs.declared.feed_key.FeedKind.{FeedKind}
use Rattle.lean_orders.specs.declared.event.OrderEvent.{OrderEvent}
use Rattle.report_lines.specs.EventLines.{event_line}
use Rattle.report_pages.specs.Lines.{data_line}

-- a security is added or removed at a moment, something happened to an order, or a session closed with a cash and an equity
pub data Line : Type 0 where
  added : ℕ → List ℕ → Line
  removed : ℕ → List ℕ → Line
  happened : OrderEvent → Line
  closed : ℕ → ℤ → ℤ → Line

-- a malformed line is due, or there is no room for one more security or request
pub data Halt : Type 0 where
  malformed : FeedKind → Bad → Halt
  too_many_securities : Halt
  too_many_requests : Halt

-- parts joined by spaces, and an LF
abbrev pub joined : List (List ℕ) → List ℕ
joined [] = []
joined (part ∷ []) = part
joined (part ∷ next ∷ parts) = part ++ 32 ∷ joined (next ∷ parts)

abbrev pub line_of : List (List ℕ) → List ℕ
line_of parts = joined parts ++ 10 ∷ []

unfoldable pub line_bytes : Line → List ℕ
line_bytes (added t symbol) = line_of (moment_text t ∷ codes "add" ∷ symbol ∷ [])
line_bytes (removed t symbol) = line_of (moment_text t ∷ codes "remove" ∷ symbol ∷ [])
line_bytes (happened event) = line_of (event_line event ∷ [])
line_bytes (closed t cash equity) =
    line_of (moment_text t ∷ codes "close cash" ∷ money_text cash ∷ codes "equity" ∷ money_text equity ∷ [])

unfoldable pub halt_bytes : Halt → List ℕ
halt_bytes (malformed kind bad) = data_line kind bad
halt_bytes too_many_securities = line_of (codes "limit securities" ∷ [])
halt_bytes too_many_requests = line_of (codes "limit requests" ∷ [])
