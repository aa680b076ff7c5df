-- What the bars of a security have given up to a moment: the bars themselves, or those of a longer period, and their closes.
use Rattle.std.specs.Prelude.{ℕ, pos, List, [], ◌∷◌, map, filter, flat_map, Option, Some, None}
use Rattle.std.specs.List.{find, last_or}
use Rattle.lean_fixed.specs.declared.money.Price.{Price}
use Rattle.lean_items.specs.declared.bar.Bar.{Bar}
use Rattle.consolidators.specs.Buckets.{given}
use Rattle.clock_feeds.specs.Bars.{ends_at}
use Rattle.clock_run.specs.Known.{Known}
use Rattle.clock_run.specs.States.{Subscription, State, symbol_of}

-- a security, the period of its bars, and all bars of its feed that ended by a moment
pub record History : Type 0 where
  pub symbol : List ℕ
  pub period : Option ℕ
  pub bars : List Bar

abbrev pub history_of : Known → Subscription → History
history_of known security =
    record { symbol = symbol_of security; period = security.period; bars = known.bars security.key }

abbrev pub histories : Known → State → List History
histories known s = map (history_of known) s.securities

-- the bar that ends at a moment
abbrev pub bar_now : ℕ → History → Option Bar
bar_now t h = find (ends_at t) h.bars

-- what is given at a moment: the bar that ends then, or the buckets that are complete then
abbrev pub given_at : Option ℕ → List Bar → ℕ → List Bar
given_at None bars t = filter (ends_at t) bars
given_at (Some period) bars t = given period bars (pos t)

-- the last bar that is given at a moment; where there is one, the security is fresh
abbrev pub fresh_bar : ℕ → History → Option Bar
fresh_bar t h = last_or None (given_at h.period h.bars t)

-- what is given as the last of some bars ends
abbrev pub given_with : Option ℕ → List Bar → Option Bar → List Bar
given_with period bars None = []
given_with None bars (Some bar) = bar ∷ []
given_with (Some period) bars (Some bar) = given period bars bar.end.0

abbrev pub given_last : Option ℕ → List Bar → List Bar
given_last period bars = given_with period bars (last_or None bars)

-- the fronts of some bars that end with each of them in turn
abbrev pub fronts : List Bar → List (List Bar)
fronts [] = []
fronts (bar ∷ bars) = (bar ∷ []) ∷ map (λ front. bar ∷ front) (fronts bars)

-- all that was given since the feed began, and the closes of it
abbrev pub all_given : History → List Bar
all_given h = flat_map (given_last h.period) (fronts h.bars)

abbrev pub closes : History → List Price
closes h = map (λ bar. bar.closing) (all_given h)
