-- The ranges in which the numbers of a book lie, and those of what it replies. What a refused order asked for was not looked
-- at any further: it lies within a number either way, where all that is asked for does.
use Rattle.std.specs.Prelude.{◌≡◌, ℕ, ◌+◌, ◌≤◌, ℤ, is_some, Bool, true, false, List, [], ◌∷◌, length, Option, Some, None, IfSome}
use Rattle.std.specs.List.{AllByRecursion as Each}
use Rattle.lean_fixed.specs.Ranges.{IsAtMost, IsLeverage, IsMoney, IsPosition, IsPrice, IsQuantity, IsStartingCash}
use Rattle.lean_fixed.specs.declared.money.Price.{Price}
use Rattle.lean_fixed.specs.declared.money.Shares.{Shares}
use Rattle.lean_orders.specs.declared.order.Kind.{Kind}
use Rattle.lean_orders.specs.declared.order.Order.{Order}
use Rattle.lean_orders.specs.declared.order.OrderState.{OrderState}
use Rattle.lean_orders.specs.declared.order.OrderState.TheVariants.{Live, Filled, Canceled, Refused}
use Rattle.lean_orders.specs.declared.event.OrderEvent.{OrderEvent}
use Rattle.lean_orders.specs.declared.event.What.{What}
use Rattle.lean_orders.specs.declared.event.What.TheVariants as what
use Rattle.lean_orders.specs.declared.desk.Command.{Command}
use Rattle.lean_orders.specs.declared.desk.Command.TheVariants as command
use Rattle.lean_orders.specs.declared.desk.Reply.{Reply}
use Rattle.lean_orders.specs.declared.desk.Reply.TheVariants as reply
use Rattle.lean_orders.specs.Traded.{IsFill}
use Rattle.trade_costs.specs.Fees.{IsCosts}
use Rattle.portfolio.specs.Sums.{AreFills, fees, realised}
use Rattle.clock_book.specs.Books.{Book, cash_of, equity_of, others_of, position_of}
use Rattle.clock_book.specs.Fitting.{IsPriceBar, most_orders, submits}
use Rattle.clock_book.specs.Seen.{AreNumbered}
use Rattle.clock_book.specs.Submits.{has_price, has_limit}

-- a price where there is to be one, and none where there is not
abbrev pub IsPriceIf : Bool → Option Price → Type 0
IsPriceIf true (Some price) = IsPrice price.0
IsPriceIf false None = Unit {0}
IsPriceIf _ _ = ⊥

-- what was accepted as an order of a kind: a quantity, and the price and the limit that the kind has
pub record IsAccepted (kind : Kind) (shares : Shares) (asked limited : Option Price) : Type 0 where
  pub quantity : IsQuantity shares.0
  pub price : IsPriceIf (has_price kind) asked
  pub limit : IsPriceIf (has_limit kind) limited

-- what is asked for lies within a number either way
pub record IsAsked (most : ℕ) (shares : Shares) (asked limited : Option Price) : Type 0 where
  pub quantity : IsAtMost most shares.0
  pub price : IfSome asked (λ price. IsAtMost most price.0)
  pub limit : IfSome limited (λ limit. IsAtMost most limit.0)

-- the numbers of an order that was refused, or was not
abbrev pub is_refused : OrderState → Bool
is_refused Live = false
is_refused Filled = false
is_refused Canceled = false
is_refused Refused = true

abbrev pub IsOrderIf : Bool → ℕ → Order → Type 0
IsOrderIf true most order = IsAsked most order.quantity order.price order.limit
IsOrderIf false most order = IsAccepted order.kind order.quantity order.price order.limit

abbrev pub IsOrder : ℕ → Order → Type 0
IsOrder most order = IsOrderIf (is_refused order.state) most order

-- how many of some orders were filled
abbrev pub fills_of_state : OrderState → ℕ
fills_of_state Live = 0
fills_of_state Filled = 1
fills_of_state Canceled = 0
fills_of_state Refused = 0

abbrev pub filled_orders : List Order → ℕ
filled_orders [] = 0
filled_orders (order ∷ later) = fills_of_state order.state + filled_orders later

-- The numbers of a book: of what it was begun with, of its marks, its orders and its fills. There are not too many orders, their
-- ids count from 1, and each fill is that of an order.
pub record IsInRange (most : ℕ) (book : Book) : Type 0 where
  pub start : IsStartingCash book.start
  pub costs : IsCosts book.costs
  pub leverage : IsLeverage book.leverage
  pub marks : Each (λ mark. IsPriceBar mark.bar) book.marks
  pub orders : Each (λ order. IsOrder most order) book.orders
  pub few : length book.orders ≤ most_orders
  pub numbered : AreNumbered 1 book.orders
  pub fills : AreFills book.fills
  pub filled : length book.fills ≤ filled_orders book.orders

-- the sums of a book are money, and what is held of a symbol is a position
pub record HasMoney (book : Book) : Type 0 where
  pub cash : IsMoney (cash_of book)
  pub equity : IsMoney (equity_of book)
  pub fees : IsMoney (fees book.fills)
  pub realised : IsMoney (realised book.fills)
  pub others : (symbol : List ℕ) → IsMoney (others_of book symbol)
  pub position : (symbol : List ℕ) → IsPosition (position_of book symbol)
  pub few : length book.fills ≤ most_orders

-- the numbers that a command brings: those of a mark's bar, and those of a request; that of an update is tested
abbrev pub HasNumbers : ℕ → Command → Type 0
HasNumbers most (command.Mark at symbol bar) = IsPriceBar bar
HasNumbers most (command.Match at) = Unit {0}
HasNumbers most (command.Submit at request) = IsAsked most request.quantity request.price request.limit
HasNumbers most (command.Update at id price) = Unit {0}
HasNumbers most (command.Cancel at id) = Unit {0}
HasNumbers most (command.Account at) = Unit {0}

-- how many orders some commands add
abbrev pub submitted : List Command → ℕ
submitted [] = 0
submitted (first ∷ later) = submits first + submitted later

-- the moment of a command
abbrev pub moment_of : Command → ℤ
moment_of (command.Mark at symbol bar) = at.0
moment_of (command.Match at) = at.0
moment_of (command.Submit at request) = at.0
moment_of (command.Update at id price) = at.0
moment_of (command.Cancel at id) = at.0
moment_of (command.Account at) = at.0

-- an order that a command is about is one of so many
abbrev pub NamesOneOf : ℕ → Command → Type 0
NamesOneOf orders (command.Mark at symbol bar) = Unit {0}
NamesOneOf orders (command.Match at) = Unit {0}
NamesOneOf orders (command.Submit at request) = Unit {0}
NamesOneOf orders (command.Update at id price) = (1 ≤ id) × (id ≤ orders)
NamesOneOf orders (command.Cancel at id) = (1 ≤ id) × (id ≤ orders)
NamesOneOf orders (command.Account at) = Unit {0}

-- the numbers of what happened to an order of a symbol
abbrev pub IsWhat : List ℕ → What → Type 0
IsWhat symbol (what.Submitted kind quantity price limit) = IsAccepted kind quantity price limit
IsWhat symbol (what.Updated price) = IsPrice price.0
IsWhat symbol (what.Filled fill) = IsFill fill × (fill.symbol ≡ symbol)
IsWhat symbol what.Canceled = Unit {0}
IsWhat symbol (what.Invalid cause) = Unit {0}

-- to an id that was not given out nothing happens
abbrev pub IsUnknown : What → Type 0
IsUnknown (what.Submitted kind quantity price limit) = ⊥
IsUnknown (what.Updated price) = ⊥
IsUnknown (what.Filled fill) = ⊥
IsUnknown what.Canceled = ⊥
IsUnknown (what.Invalid cause) = Unit {0}

abbrev pub IsWhatOf : Option (List ℕ) → What → Type 0
IsWhatOf None what = IsUnknown what
IsWhatOf (Some symbol) what = IsWhat symbol what

-- an event of a moment
pub record IsEvent (moment : ℤ) (event : OrderEvent) : Type 0 where
  pub at : event.at.0 ≡ moment
  pub what : IsWhatOf event.symbol event.what

-- a reply to a command of a moment
abbrev pub IsReply : ℤ → Reply → Type 0
IsReply at (reply.Event event) = IsEvent at event
IsReply at (reply.Account cash equity) = IsMoney cash.0 × IsMoney equity.0
IsReply at reply.Done = Unit {0}

-- an event is that of an order
pub record IsOfOrder (event : OrderEvent) : Type 0 where
  pub id : (1 ≤ event.id) × (event.id ≤ most_orders)
  pub symbol : is_some event.symbol ≡ true

abbrev pub NamesOrder : Reply → Type 0
NamesOrder (reply.Event event) = IsOfOrder event
NamesOrder (reply.Account cash equity) = Unit {0}
NamesOrder reply.Done = Unit {0}
