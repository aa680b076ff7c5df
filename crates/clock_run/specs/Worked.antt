-- Small plans, bars and worlds, on which the definitions are computed. The days are those from Monday, 2013-10-07, on, and the
-- minutes those past 10:00 of it.
use Rattle.std.specs.Prelude.{ℕ, ◌+◌, ◌-◌, ◌*◌, ◌==◌, pos, Bool, true, false, nat_le, if◌then◌else◌, bytes_eq, List, [], ◌∷◌, length, filter, codes, Option, Some, None, option_map}
use Rattle.lean_fixed.specs.declared.resolution.Resolution.TheVariants.{Minute}
use Rattle.lean_fixed.specs.declared.time.Window.{Window}
use Rattle.lean_fixed.specs.Moments.{midnight}
use Rattle.lean_items.specs.declared.bad.Bad.{Bad}
use Rattle.lean_items.specs.declared.reason.Reason.TheVariants.{Fields}
use Rattle.lean_items.specs.declared.bar.Bar.{Bar}
use Rattle.lean_items.specs.declared.coarse_row.CoarseRow.{CoarseRow}
use Rattle.lean_items.specs.declared.feed_key.FeedKind.{FeedKind}
use Rattle.lean_items.specs.declared.feed_key.FeedKind.TheVariants.{Coarse, Equity}
use Rattle.exchange_hours.specs.Sessions.{moment}
use Rattle.lean_orders.specs.declared.order.Kind.{Kind}
use Rattle.lean_orders.specs.declared.order.Kind.TheVariants.{Market, Limit, Stop}
use Rattle.lean_orders.specs.declared.order.Order.{Order}
use Rattle.lean_orders.specs.declared.order.OrderState.TheVariants.{Live}
use Rattle.lean_orders.specs.declared.event.Fill.{Fill}
use Rattle.lean_orders.specs.declared.event.What.{What}
use Rattle.rule_lang.specs.declared.token.Name.{Name}
use Rattle.rule_lang.specs.declared.token.Name.TheVariants.{Position, Time}
use Rattle.rule_lang.specs.declared.token.Comparison.{Comparison}
use Rattle.rule_lang.specs.declared.token.Comparison.TheVariants.{Equal, Greater}
use Rattle.rule_lang.specs.declared.token.Arithmetic.TheVariants.{Minus}
use Rattle.rule_lang.specs.Tree.{Amount, number, named, minus, arithmetic, Condition, and, compare, condition, amount}
use Rattle.rule_strategy.specs.declared.plan.Plan.{Plan}
use Rattle.rule_strategy.specs.declared.rule.Rule.{Rule}
use Rattle.rule_strategy.specs.declared.rule.Action.TheVariants as act
use Rattle.rule_strategy.specs.declared.security.Security.{Security}
use Rattle.rule_strategy.specs.declared.universe.UniversePlan.{UniversePlan}
use Rattle.clock_book.specs.Books.{Book, new_book}
use Rattle.clock_book.specs.Worked.{usual_hours}
use Rattle.clock_feeds.specs.Bars.{end_of}
use Rattle.clock_run.specs.Known.{Known, World}
use Rattle.clock_run.specs.Lines.{Line, happened}
use Rattle.clock_run.specs.States.{Setup, Subscription, State, listed, joining}

abbrev pub monday : ℕ
monday = 15985

abbrev pub minute : ℕ → ℕ
minute n = midnight monday + 600 + n

abbrev pub days : ℕ → Window
days n = record { first = record { 0 = pos monday }; last = record { 0 = pos (monday + n - 1) } }

-- a security of minute bars that are not filled
abbrev pub minutes_of : List ℕ → Option ℕ → Security
minutes_of symbol period = record { symbol = symbol; resolution = Minute; fill = false; period = period }

-- the most traded symbols
abbrev pub top : ℕ → UniversePlan
top n = record {
  resolution = Minute;
  fill = false;
  period = None;
  rule = record { top = n; min_price = record { 0 = pos 0 }; min_volume = record { 0 = pos 0 }; min_dollars = pos 0 };
}

-- some days with a cash in units, a slip, and no fees
abbrev pub plan_of : ℕ → ℕ → ℕ → List Security → Option UniversePlan → List Rule → Plan
plan_of n cash slip securities universe rules = record {
  window = days n;
  cash = record { 0 = pos cash };
  leverage = 2;
  costs = record { per_share = record { 0 = pos 0 }; least = record { 0 = pos 0 }; slip = pos slip };
  securities = securities;
  universe = universe;
  rules = rules;
}

abbrev pub setup_of : Plan → Setup
setup_of plan = record { plan = plan; hours = usual_hours }

-- expressions
abbrev pub whole : ℕ → Amount
whole n = number (pos (n * 10000))

abbrev pub where_name : Comparison → Name → ℕ → Condition
where_name how name n = compare how (named name) (whole n)

-- an order of some shares
abbrev pub order_of : Condition → Kind → Amount → Option Amount → Rule
order_of when kind quantity price = record {
  symbol = None;
  when = condition when;
  action = act.Order kind (amount quantity) (option_map amount price) None;
}

-- a bar of one minute that ends at a moment: opening, high, low, closing, volume
abbrev pub minute_bar : ℕ → ℕ → ℕ → ℕ → ℕ → ℕ → Bar
minute_bar end opening high low closing volume = record {
  start = moment (end - 1);
  end = moment end;
  opening = record { 0 = pos opening };
  high = record { 0 = pos high };
  low = record { 0 = pos low };
  closing = record { 0 = pos closing };
  volume = record { 0 = pos volume };
  real = true;
}

abbrev pub flat : ℕ → ℕ → Bar
flat end price = minute_bar end price price price price 1

-- the bars of each symbol that end by a moment
abbrev pub ends_by : ℕ → Bar → Bool
ends_by t bar = nat_le (end_of bar) t

abbrev pub bars_of : (List ℕ → List Bar) → ℕ → FeedKind → List Bar
bars_of bars t Coarse = []
bars_of bars t (Equity symbol resolution) = filter (ends_by t) (bars symbol)

abbrev pub known_by : (List ℕ → List Bar) → List CoarseRow → ℕ → Known
known_by bars rows t = record { bars = λ key. bars_of bars t key.kind; blocked = λ key. None; coarse = rows }

-- the bars of one symbol
abbrev pub of_symbol : List ℕ → List Bar → List ℕ → List Bar
of_symbol symbol bars asked = if bytes_eq asked symbol then bars else []

-- the market where one symbol has bars
abbrev pub world_with : List ℕ → List Bar → World
world_with symbol bars t = known_by (of_symbol symbol bars) [] t

-- the same where another row of the coarse universe is known from 00:00 of each of two days on
abbrev pub row_of_day : CoarseRow → CoarseRow → ℕ → List CoarseRow
row_of_day first second t =
    if t == midnight monday then first ∷ [] else if t == midnight (monday + 1) then second ∷ [] else []

abbrev pub world_of_two : CoarseRow → CoarseRow → List ℕ → List Bar → World
world_of_two first second symbol bars t = known_by (of_symbol symbol bars) (row_of_day first second t) t

-- a malformed line of a kind of feed
abbrev pub bad_line : ℕ → Bad
bad_line n = record { file = monday; line = n; reason = Fields }

abbrev pub bad_of : Option Bad → Option Bad → FeedKind → Option Bad
bad_of coarse security Coarse = coarse
bad_of coarse security (Equity symbol resolution) = security

abbrev pub known_bad : Option Bad → Option Bad → Known
known_bad coarse security = record { bars = λ key. []; blocked = λ key. bad_of coarse security key.kind; coarse = [] }

-- three securities: one that the plan lists, and two of the universe, of which the second is marked
abbrev pub three : List Subscription
three =
    listed (midnight monday) 1 (minutes_of (codes "SPY") None)
    ∷ joining (top 2) (midnight monday) 2 (codes "AAA")
    ∷ record (joining (top 2) (midnight monday) 3 (codes "BBB")) {
      active = record { symbol = codes "BBB"; feed = record { 0 = 3 }; listed = false; marked = true };
    } ∷ []

-- a state of some securities and a book
abbrev pub state_of : List Subscription → Book → State
state_of securities book =
    record { securities = securities; feeds = length securities + 1; book = book; requests = 0; equities = [] }

abbrev pub no_orders : ℕ → Book
no_orders cash = new_book (pos cash) (plan_of 1 cash 0 [] None []).costs 2 usual_hours

abbrev pub live_order : List ℕ → Order
live_order symbol = record {
  id = 1;
  symbol = symbol;
  kind = Limit;
  quantity = record { 0 = pos 10 };
  price = Some (record { 0 = pos 5 });
  limit = None;
  placed = moment (minute 0);
  state = Live;
  triggered = false;
}

abbrev pub bought : List ℕ → Fill
bought symbol = record { symbol = symbol; quantity = record { 0 = pos 10 }; price = record { 0 = pos 5 }; fee = record { 0 = pos 0 } }

-- a line of what happened to an order
abbrev pub event : ℕ → ℕ → What → Line
event n id what = happened (record { at = moment (minute n); id = id; symbol = Some (codes "SPY"); what = what })

-- two rules at 10:01: an order of 10 shares, and one to sell them where the price falls to 95
abbrev pub two_orders : Plan
two_orders = plan_of 1 100000000 100 (minutes_of (codes "SPY") None ∷ []) None
    (order_of (where_name Equal Time 601) Market (whole 10) None
    ∷ order_of (where_name Equal Time 601) Stop (minus (whole 10)) (Some (whole 95)) ∷ [])

-- a universe of one over two days: an order of 10 shares at 10:01, and at 10:05 one that sells all
abbrev pub universe_plan : Plan
universe_plan = plan_of 2 10000000 0 [] (Some (top 1))
    (order_of (and (where_name Equal Time 601) (where_name Equal Position 0)) Market (whole 10) None
    ∷ order_of (and (where_name Equal Time 605) (where_name Greater Position 0)) Market
    (arithmetic Minus (whole 0) (named Position)) None ∷ [])
