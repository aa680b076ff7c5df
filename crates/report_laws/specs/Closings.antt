-- The prices of the last bars: the closing prices of the bars of the active securities, moment by moment.
use Rattle.std.specs.Prelude.{◌≡◌, ◌⊎◌, ℕ, zero, suc, ◌+◌, ◌-◌, List, [], ◌∷◌, ◌++◌, flat_map, Option, Some, None, option_map}
use Rattle.std.specs.List.{last_or}
use Rattle.std.specs.Option.{option_to_list}
use Rattle.lean_fixed.specs.Moments.{first_moment}
use Rattle.lean_items.specs.declared.bar.Bar.{Bar}
use Rattle.lean_items.specs.declared.feed_key.FeedKey.{FeedKey}
use Rattle.portfolio.specs.Sums.{Mark, last_mark}
use Rattle.clock_run.specs.Lines.{Line}
use Rattle.clock_run.specs.Known.{World}
use Rattle.clock_run.specs.States.{Setup, Subscription, State, symbol_of}
use Rattle.clock_run.specs.Histories.{History, histories, bar_now}
use Rattle.clock_run.specs.Moments.{selection}
use Rattle.clock_run.specs.Reports.{moments}
use Rattle.report_laws.specs.Fills.{fills_printed}
use Rattle.report_laws.specs.Ledger.{Ledger}

-- the closing price of the bar of a security that ends at a moment
abbrev pub closing_now : ℕ → History → Option Mark
closing_now t h = option_map (λ bar. record { symbol = h.symbol; price = bar.closing.0 }) (bar_now t h)

abbrev pub closings : ℕ → List History → List Mark
closings t histories = flat_map (λ h. option_to_list (closing_now t h)) histories

module _ (setup : Setup) (world : World) where
  -- the moment behind so many others
  abbrev pub moment_behind : ℕ → ℕ
  moment_behind n = first_moment setup.plan.window + n

  -- the state behind the selection of that moment, whose securities are active then
  abbrev pub selected_behind : ℕ → State
  selected_behind n =
      (selection setup.plan.universe (moment_behind n) (world (moment_behind n)).coarse (moments setup world n).state).state

  -- the closing prices of the bars that end at that moment, and those of all moments before it
  abbrev pub closings_behind : ℕ → List Mark
  closings_behind n = closings (moment_behind n) (histories (world (moment_behind n)) (selected_behind n))

  abbrev pub closings_before : ℕ → List Mark
  closings_before zero = []
  closings_before (suc n) = closings_before n ++ closings_behind n

  -- the closing prices of the bars of all moments up to one
  abbrev pub closings_by : ℕ → List Mark
  closings_by t = closings_before (t + 1 - first_moment setup.plan.window)

  -- the ledger of some lines: the cash of the plan, the fills that they show, and the closing prices up to a moment
  abbrev pub ledger_of : ℕ → List Line → Ledger
  ledger_of t lines = record { start = setup.plan.cash.0; fills = fills_printed lines; prices = closings_by t }

-- the last price of a security is the closing price of the last bar of its feed, where that has given one
abbrev pub HasLastPrice : (FeedKey → List Bar) → List Mark → Subscription → Type 0
HasLastPrice bars quoted security =
    (bar : Bar) → last_or None (bars security.key) ≡ Some bar → last_mark (symbol_of security) quoted ≡ Some bar.closing.0

-- an active security is one of the symbol, its feed has given a bar, and the symbol's last price is the closing price of the last
-- bar
pub record IsAtLastBar (symbol : List ℕ) (bars : FeedKey → List Bar) (quoted : List Mark) (security : Subscription) : Type 0 where
  pub is : symbol_of security ≡ symbol
  pub bar : Bar
  pub last : last_or None (bars security.key) ≡ Some bar
  pub price : last_mark symbol quoted ≡ Some bar.closing.0

-- one of some things is so
abbrev pub HasOne : {X : Type 0} → (X → Type 0) → List X → Type 0
HasOne P [] = ⊥
HasOne P (x ∷ xs) = P x ⊎ HasOne P xs
