-- What is kept of what was seen: the account, and the live orders by their symbols and by their ids.
use Rattle.std.specs.Prelude.{◌≡◌, ◌<◌, ℕ, ◌==◌, ℤ, nat_eq, Bool, List, [], ◌∷◌, ◌++◌, length, filter, Option, Some, None, unwrap_or}
use Rattle.std.specs.List.{list_any}
use Rattle.std.specs.Map.{lookup}
use Rattle.lean_orders.specs.declared.order.Resting.{Resting}
use Rattle.lean_orders.specs.declared.event.What.{What}
use Rattle.lean_orders.specs.declared.event.What.TheVariants.{Submitted, Updated, Filled, Canceled, Invalid}
use Rattle.lean_orders.specs.declared.desk.Reply.{Reply}
use Rattle.lean_orders.specs.declared.desk.Reply.TheVariants.{Event, Account as AccountTold, Done}
use Rattle.lean_orders.specs.Traded.{IsFill}
use Rattle.portfolio.specs.Stands.{StandsFor, most_fills}
use Rattle.portfolio.specs.Symbols.{same_symbol}
use Rattle.clock_book.specs.Seen.{Seen}
use Rattle.backtest_core.specs.declared.mirror.Lives.{Lives}
use Rattle.backtest_core.specs.declared.mirror.Mirror.{Mirror}

-- the orders that are listed under a key
abbrev pub listed : {K : Type 0} → (K → K → Bool) → List (K × List Resting) → K → List Resting
listed eq entries key = unwrap_or (lookup (eq key) entries) []

-- the live orders of a symbol, and those of an id
abbrev pub of_symbol : List ℕ → List Resting → List Resting
of_symbol symbol live = filter (λ order. same_symbol symbol order.symbol) live

abbrev pub of_id : ℕ → List Resting → List Resting
of_id id live = filter (λ order. order.id == id) live

-- one of some orders is of a symbol
abbrev pub has_symbol : List ℕ → List Resting → Bool
has_symbol symbol orders = list_any (λ order. same_symbol symbol order.symbol) orders

-- the live orders are listed by their symbols and by their ids, in the order in which they came
pub record Lists (by_symbol : List (List ℕ × List Resting)) (by_id : List (ℕ × List Resting)) (live : List Resting) : Type 0 where
  pub symbols : (symbol : List ℕ) → listed same_symbol by_symbol symbol ≡ of_symbol symbol live
  pub ids : (id : ℕ) → listed nat_eq by_id id ≡ of_id id live

abbrev pub AreLive : Lives → List Resting → Type 0
AreLive lives live = Lists lives.by_symbol.entries lives.by_id.entries live

-- what is kept is that of what was seen
pub record Sees (mirror : Mirror) (seen : Seen) : Type 0 where
  pub account : StandsFor mirror.account seen.start seen.fills seen.marks
  pub live : AreLive mirror.lives seen.live

-- before anything was seen
abbrev pub nothing_seen : ℤ → Seen
nothing_seen start = record { start = start; marks = []; fills = []; live = [] }

-- what is seen behind a mark
abbrev pub with_mark : List ℕ → ℤ → Seen → Seen
with_mark symbol price seen = record seen { marks = seen.marks ++ record { symbol = symbol; price = price } ∷ [] }

-- A fill can be learnt: its numbers are in their ranges, and there is room for it. Whatever else a reply tells can be learnt.
abbrev pub CanBeLearnt : Seen → Option (List ℕ) → What → Type 0
CanBeLearnt seen None what = Unit {0}
CanBeLearnt seen (Some symbol) (Submitted kind quantity price limit) = Unit {0}
CanBeLearnt seen (Some symbol) (Updated price) = Unit {0}
CanBeLearnt seen (Some symbol) (Filled fill) = IsFill fill × (length seen.fills < most_fills)
CanBeLearnt seen (Some symbol) Canceled = Unit {0}
CanBeLearnt seen (Some symbol) (Invalid cause) = Unit {0}

abbrev pub CanLearn : Seen → Reply → Type 0
CanLearn seen (Event event) = CanBeLearnt seen event.symbol event.what
CanLearn seen (AccountTold cash equity) = Unit {0}
CanLearn seen Done = Unit {0}
