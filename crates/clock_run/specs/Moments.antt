-- One moment of a backtest, in its order: selection; prices and fills; the requests of the rules and their handling; the close
-- of a session; removals; and the refusal of a malformed line. Each part has the state that the part before it left, and a
-- part that halts leaves out those behind it.
use Rattle.std.specs.Prelude.{ℕ, ◌+◌, ◌-◌, ◌==◌, nat_lt, Bool, not, ◌&&◌, if◌then◌else◌, ℤ, pos, List, [], ◌∷◌, ◌++◌, length, map, filter, flat_map, take, Option, Some, None, option_map}
use Rattle.std.specs.List.{filter_map}
use Rattle.std.specs.Option.{option_or, option_to_list}
use Rattle.std.specs.Ordering.{int_eq}
use Rattle.lean_items.specs.declared.bar.Bar.{Bar}
use Rattle.lean_items.specs.declared.coarse_row.CoarseRow.{CoarseRow}
use Rattle.lean_items.specs.declared.feed_key.FeedKey.{FeedKey}
use Rattle.exchange_hours.specs.Entries.{Entries}
use Rattle.exchange_hours.specs.Grid.{is_closing}
use Rattle.exchange_hours.specs.Sessions.{moment}
use Rattle.lean_orders.specs.declared.desk.PriceBar.{PriceBar}
use Rattle.lean_orders.specs.declared.desk.Command.{Command}
use Rattle.lean_orders.specs.declared.desk.Command.TheVariants.{Mark, Match, Account as AskAccount}
use Rattle.lean_orders.specs.declared.desk.Reply.{Reply}
use Rattle.lean_orders.specs.declared.desk.Reply.TheVariants.{Event, Account, Done}
use Rattle.universe_rules.specs.Selected.{selected}
use Rattle.universe_state.specs.Choice.{marked_by, additions, room}
use Rattle.clock_steps.specs.Runs.{Ran, rests, before}
use Rattle.clock_book.specs.Handled.{after, replies}
use Rattle.clock_book.specs.Seen.{Seen, seen_of}
use Rattle.rule_strategy.specs.declared.universe.UniversePlan.{UniversePlan}
use Rattle.clock_run.specs.Lines.{Line, added, removed, happened, closed, Halt, malformed, too_many_securities, too_many_requests}
use Rattle.clock_run.specs.Known.{Known}
use Rattle.clock_run.specs.States.{Setup, Subscription, State, symbol_of, actives, numbered, joining, active_keys}
use Rattle.clock_run.specs.Histories.{History, histories, bar_now}
use Rattle.clock_run.specs.Requests.{position_seen, orders_seen, requests}

-- a part of a moment
abbrev pub Part : Type 0
Part = State → Ran State Line Halt

abbrev pub in_turn : List Part → State → Ran State Line Halt
in_turn [] s = rests s
in_turn (part ∷ parts) s = before (part s) (in_turn parts)

-- a halt where there are more items than there is room for
abbrev pub stop_past : {A : Type 0} → ℕ → Halt → List A → Option Halt
stop_past room halt items = if nat_lt room (length items) then Some halt else None

-- Selection. Each active security of the universe that is not among the selected symbols is marked, and each that is is not;
-- the selected symbols that are not active are added, in the order of selection, as far as there is room.
abbrev pub marked_as : List (List ℕ) → Subscription → Subscription
marked_as symbols security = record security { active = marked_by symbols security.active }

abbrev pub added_to : UniversePlan → ℕ → List (List ℕ) → List (List ℕ) → State → State
added_to universe t symbols news s = record s {
  securities = map (marked_as symbols) s.securities ++ numbered (joining universe t) s.feeds news;
  feeds = s.feeds + length news;
}

abbrev pub chosen : UniversePlan → ℕ → List (List ℕ) → Part
chosen universe t symbols s =
    let wanted = additions symbols (actives s) in
    let news = take (room (actives s)) wanted in
    record {
      lines = map (added t) news;
      state = added_to universe t symbols news s;
      stop = stop_past (room (actives s)) too_many_securities wanted;
    }

-- a choice is made where coarse rows are known from this moment on
abbrev pub selection : Option UniversePlan → ℕ → List CoarseRow → Part
selection None t rows s = rests s
selection (Some universe) t [] s = rests s
selection (Some universe) t (row ∷ rows) s = chosen universe t (selected (row ∷ rows) universe.rule) s

-- Commands are handled by the book, and what it replies is printed.
abbrev pub told : ℕ → Reply → Option Line
told t (Event event) = Some (happened event)
told t (Account cash equity) = Some (closed t cash.0 equity.0)
told t Done = None

abbrev pub equity_told : Reply → Option ℤ
equity_told (Event event) = None
equity_told (Account cash equity) = Some equity.0
equity_told Done = None

abbrev pub served : ℕ → List Command → Part
served t commands s =
    let heard = replies s.book commands in
    record {
      lines = filter_map (told t) heard;
      state = record s { book = after s.book commands; equities = s.equities ++ filter_map equity_told heard };
      stop = None;
    }

-- Prices and fills: the price of each security whose bar ends now becomes its closing price, and then the live orders are
-- tried on the bars.
abbrev pub price_bar : Bar → PriceBar
price_bar bar = record {
  start = bar.start;
  end = bar.end;
  opening = bar.opening;
  high = bar.high;
  low = bar.low;
  closing = bar.closing;
  volume = bar.volume;
  real = bar.real;
}

abbrev pub mark_of : ℕ → History → Option Command
mark_of t h = option_map (λ bar. Mark (moment t) h.symbol (price_bar bar)) (bar_now t h)

abbrev pub marks : ℕ → List History → List Command
marks t histories = flat_map (λ h. option_to_list (mark_of t h)) histories

abbrev pub prices : ℕ → Known → Part
prices t known s = served t (marks t (histories known s) ++ Match (moment t) ∷ []) s

-- Trading: the rules ask, all of one state, and then what they ask for is handled in that order, as far as there is room.
abbrev pub most_requests : ℕ
most_requests = 1000000

abbrev pub counted : ℕ → Ran State Line Halt → Ran State Line Halt
counted n ran = record ran { state = record ran.state { requests = ran.state.requests + n } }

abbrev pub traded : ℕ → List Command → Part
traded t asked s =
    let room = most_requests - s.requests in
    let handled = take room asked in
    record (counted (length handled) (served t handled s)) { stop = stop_past room too_many_requests asked }

abbrev pub trading : Setup → ℕ → Known → Part
trading setup t known s = traded t (requests setup.plan.rules (seen_of s.book) t (histories known s)) s

-- the close line, where a session closes
abbrev pub closing : Entries → ℕ → Part
closing hours t s = if is_closing hours t then served t (AskAccount (moment t) ∷ []) s else rests s

-- Removals: a marked security goes once nothing is held of it and no order of it is live.
abbrev pub is_done_with : Seen → Subscription → Bool
is_done_with seen security =
    security.active.marked
    && (int_eq (position_seen seen (symbol_of security)) (pos 0)
    && (length (orders_seen seen (symbol_of security)) == 0))

abbrev pub removals : ℕ → Part
removals t s = record {
  lines = map (λ security. removed t (symbol_of security)) (filter (is_done_with (seen_of s.book)) s.securities);
  state = record s { securities = filter (λ security. not (is_done_with (seen_of s.book) security)) s.securities };
  stop = None;
}

-- Refusal: the first active feed that has ended with a malformed line by now is named.
abbrev pub first_refused : Known → List FeedKey → Option Halt
first_refused known [] = None
first_refused known (key ∷ keys) =
    option_or (option_map (malformed key.kind) (known.blocked key)) (first_refused known keys)

abbrev pub refusal : Setup → Known → Part
refusal setup known s =
    record { lines = []; state = s; stop = first_refused known (active_keys setup.plan s) }

abbrev pub parts_of : Setup → ℕ → Known → List Part
parts_of setup t known =
    selection setup.plan.universe t known.coarse
    ∷ prices t known
    ∷ trading setup t known
    ∷ closing setup.hours t
    ∷ removals t
    ∷ refusal setup known ∷ []

unfoldable pub moment_of : Setup → ℕ → Known → State → Ran State Line Halt
moment_of setup t known s = in_turn (parts_of setup t known) s
