-- What a core stands for within a moment, and what each call makes of it.
use Rattle.std.specs.Prelude.{ℕ, ◌+◌, ◌-◌, ◌==◌, nat_lt, Bool, true, false, not, if◌then◌else◌, List, [], ◌∷◌, ◌++◌, length, map, filter, take, Option, Some, None}
use Rattle.std.specs.List.{filter_map}
use Rattle.std.specs.Option.{option_map_or}
use Rattle.lean_items.specs.declared.arrival.Arrival.{Arrival}
use Rattle.lean_items.specs.declared.bar.Bar.{Bar}
use Rattle.lean_items.specs.declared.coarse_row.CoarseRow.{CoarseRow}
use Rattle.lean_items.specs.declared.item.Item.{Item}
use Rattle.lean_items.specs.declared.item.Item.TheVariants.{Bar as BarItem, Coarse as CoarseItem, Bad, Faulted, End}
use Rattle.exchange_hours.specs.Grid.{is_closing}
use Rattle.exchange_hours.specs.Sessions.{moment}
use Rattle.lean_orders.specs.declared.desk.Command.{Command}
use Rattle.lean_orders.specs.declared.desk.Command.TheVariants.{Match, Account}
use Rattle.lean_orders.specs.declared.desk.Reply.{Reply}
use Rattle.rule_strategy.specs.declared.universe.UniversePlan.{UniversePlan}
use Rattle.universe_rules.specs.Selected.{selected}
use Rattle.universe_rules.specs.declared.rule.UniverseRule.{UniverseRule}
use Rattle.universe_state.specs.Active.{Active}
use Rattle.universe_state.specs.Choice.{additions, room}
use Rattle.clock_book.specs.Seen.{given_out, learnt}
use Rattle.clock_run.specs.Lines.{Line, added, removed}
use Rattle.clock_run.specs.States.{Subscription, symbol_of, joining}
use Rattle.clock_run.specs.Histories.{History}
use Rattle.clock_run.specs.Requests.{requests}
use Rattle.clock_run.specs.Moments.{marked_as, told, marks, most_requests, is_done_with}
use Rattle.backtest_core.specs.declared.phase.Phase.{Phase}
use Rattle.backtest_core.specs.declared.phase.Phase.TheVariants.{Prices, Rules, Close}
use Rattle.backtest_core.specs.Standing.{Followed, Standing, history, active_of, feed_of}

-- The moment; what stood before it, as far as the calls have changed it; the phase that has begun, where one has, the commands
-- that are left of it, and whether a request is left behind them for which there is no room; the symbols that are added; and
-- the lines so far.
pub record Inside : Type 0 where
  pub at : ℕ
  pub standing : Standing
  pub phase : Option Phase
  pub left : List Command
  pub over : Bool
  pub news : List (List ℕ)
  pub lines : List Line

-- the bars of a feed among what arrived, and the coarse rows
abbrev pub bar_in : Item → Option Bar
bar_in (BarItem bar) = Some bar
bar_in (CoarseItem at row) = None
bar_in (Bad bad) = None
bar_in Faulted = None
bar_in End = None

abbrev pub bar_for : ℕ → Arrival → Option Bar
bar_for feed a = if a.feed.0 == feed then bar_in a.item else None

abbrev pub bars_in : List Arrival → ℕ → List Bar
bars_in slice feed = filter_map (bar_for feed) slice

abbrev pub row_in : Item → Option CoarseRow
row_in (BarItem bar) = None
row_in (CoarseItem at row) = Some row
row_in (Bad bad) = None
row_in Faulted = None
row_in End = None

abbrev pub rows_in : List Arrival → List CoarseRow
rows_in slice = filter_map (λ a. row_in a.item) slice

-- Arrival: each security hears its bars, and where coarse rows came, the universe is chosen.
abbrev pub with_bars : List Arrival → Followed → Followed
with_bars slice f = record f { bars = f.bars ++ bars_in slice (feed_of f) }

abbrev pub marked_so : List (List ℕ) → Followed → Followed
marked_so symbols f = record f { security = marked_as symbols f.security }

abbrev pub inside : ℕ → List (List ℕ) → Standing → Inside
inside at news v =
    record { at = at; standing = v; phase = None; left = []; over = false; news = news; lines = map (added at) news }

abbrev pub actives_in : Standing → List Active
actives_in v = map active_of v.followed

abbrev pub choosing : ℕ → List (List ℕ) → Standing → Inside
choosing at symbols v =
    inside at (take (room (actives_in v)) (additions symbols (actives_in v))) (record v { followed = map (marked_so symbols) v.followed })

-- the symbols that are selected, where a choice is due
abbrev pub choice_by : UniverseRule → List CoarseRow → Option (List (List ℕ))
choice_by rule [] = None
choice_by rule (row ∷ rows) = Some (selected (row ∷ rows) rule)

abbrev pub choice : Option UniversePlan → List CoarseRow → Option (List (List ℕ))
choice None rows = None
choice (Some universe) rows = choice_by universe.rule rows

abbrev pub choice_in : Standing → List Arrival → Option (List (List ℕ))
choice_in v slice = choice v.setup.plan.universe (rows_in slice)

abbrev pub arrived_with : ℕ → Option (List (List ℕ)) → Standing → Inside
arrived_with at None v = inside at [] v
arrived_with at (Some symbols) v = choosing at symbols v

abbrev pub arrived : ℕ → List Arrival → Standing → Inside
arrived at slice v = arrived_with at (choice_in v slice) (record v { followed = map (with_bars slice) v.followed })

-- one security more would be active than there is room for
abbrev pub is_too_many : Standing → List (List ℕ) → Bool
is_too_many v symbols = nat_lt (room (actives_in v)) (length (additions symbols (actives_in v)))

abbrev pub has_too_many : Standing → List Arrival → Bool
has_too_many v slice = option_map_or (is_too_many v) (choice_in v slice) false

-- Commands: those of a phase are known as it begins, and are given one after another.
abbrev pub histories_in : Inside → List History
histories_in i = map history i.standing.followed

abbrev pub asked : Inside → List Command
asked i = requests i.standing.setup.plan.rules i.standing.seen i.at (histories_in i)

abbrev pub commands_of : Phase → Inside → List Command
commands_of Prices i = marks i.at (histories_in i) ++ Match (moment i.at) ∷ []
commands_of Rules i = take (most_requests - i.standing.requests) (asked i)
commands_of Close i = if is_closing i.standing.setup.hours i.at then Account (moment i.at) ∷ [] else []

abbrev pub is_over_in : Phase → Inside → Bool
is_over_in Prices i = false
is_over_in Rules i = nat_lt (most_requests - i.standing.requests) (length (asked i))
is_over_in Close i = false

-- a phase begins as its first command is asked for, and only behind those before it
abbrev pub place_of : Phase → ℕ
place_of Prices = 0
place_of Rules = 1
place_of Close = 2

abbrev pub begins : Phase → Option Phase → Bool
begins phase None = true
begins phase (Some now) = nat_lt (place_of now) (place_of phase)

abbrev pub entered : Phase → Inside → Inside
entered phase i =
    if begins phase i.phase
    then record i { phase = Some phase; left = commands_of phase i; over = is_over_in phase i }
    else i

abbrev pub first_of : List Command → Option Command
first_of [] = None
first_of (c ∷ cs) = Some c

-- a request that is given counts
abbrev pub counted_in : Option Phase → ℕ → ℕ
counted_in (Some Rules) n = n + 1
counted_in (Some Prices) n = n
counted_in (Some Close) n = n
counted_in None n = n

abbrev pub behind_first : List Command → Inside → Inside
behind_first [] i = i
behind_first (c ∷ cs) i = record i {
  left = cs;
  standing = record i.standing { seen = given_out i.standing.seen c; requests = counted_in i.phase i.standing.requests };
}

abbrev pub next : Inside → Inside
next i = behind_first i.left i

-- a reply is learnt and printed
abbrev pub hearing : Reply → Inside → Inside
hearing reply i = record i {
  standing = record i.standing { seen = learnt i.standing.seen reply };
  lines = i.lines ++ filter_map (told i.at) (reply ∷ []);
}

-- Close: what is done with leaves, and what was chosen waits for its number.
abbrev pub is_leaving : Inside → Followed → Bool
is_leaving i f = is_done_with i.standing.seen f.security

abbrev pub leaving : Inside → List Followed
leaving i = filter (is_leaving i) i.standing.followed

abbrev pub joining_all : Option UniversePlan → ℕ → List (List ℕ) → List Subscription
joining_all None at news = []
joining_all (Some universe) at news = map (joining universe at 0) news

abbrev pub closed : Inside → Standing
closed i = record i.standing {
  waiting = joining_all i.standing.setup.plan.universe i.at i.news;
  followed = filter (λ f. not (is_leaving i f)) i.standing.followed;
}

abbrev pub lines_closed : Inside → List Line
lines_closed i = i.lines ++ map (λ f. removed i.at (symbol_of f.security)) (leaving i)
