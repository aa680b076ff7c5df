-- Which securities come and which leave, by what is kept of them.
use Rattle.std.specs.Prelude.{ℕ, ◌==◌, pos, Bool, not, ◌&&◌, List, length, map, filter}
use Rattle.std.specs.Ordering.{int_eq}
use Rattle.universe_state.specs.Active.{Active, is_active}
use Rattle.clock_book.specs.Seen.{Seen}
use Rattle.clock_run.specs.Lines.{Line, removed}
use Rattle.clock_run.specs.Requests.{position_seen, orders_seen}
use Rattle.backtest_core.specs.declared.watched.Watched.{Watched}
use Rattle.backtest_core.specs.Watching.{active_in}

abbrev pub actives_of : List Watched → List Active
actives_of ws = map active_in ws

-- the symbols among some that are not active
abbrev pub new_beside : List Active → List (List ℕ) → List (List ℕ)
new_beside actives symbols = filter (λ symbol. not (is_active actives symbol)) symbols

abbrev pub new_among : List Watched → List (List ℕ) → List (List ℕ)
new_among ws symbols = new_beside (actives_of ws) symbols

-- a marked security is done with once nothing is held of it and no order of it is live
abbrev pub is_done : Seen → Active → Bool
is_done seen active =
    active.marked && (int_eq (position_seen seen active.symbol) (pos 0) && (length (orders_seen seen active.symbol) == 0))

abbrev pub leaving_of : Seen → List Watched → List Watched
leaving_of seen ws = filter (λ w. is_done seen (active_in w)) ws

abbrev pub staying_of : Seen → List Watched → List Watched
staying_of seen ws = filter (λ w. not (is_done seen (active_in w))) ws

-- the lines of those that leave
abbrev pub lines_of : ℕ → List Watched → List Line
lines_of t ws = map (λ w. removed t w.symbol) ws
