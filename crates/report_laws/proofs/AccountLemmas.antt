-- What a report says of its account is what the fills above add up to, at the closing prices of the last bars.
use Rattle.std.proofs.Common.{◌≡◌, ℕ, suc, ◌+◌, ◌-◌, ℤ, List, [], ◌∷◌, ◌++◌, refl, sym, ap, subst, ◌∙◌, arith}
use Rattle.std.specs.Prelude.{◌≢◌, pos, None, flat_map, length}
use Rattle.std.specs.List.{AllByRecursion as Each}
use Rattle.std.proofs.lemmas.Int.{ints}
use Rattle.lean_fixed.specs.Moments.{first_moment, last_moment}
use Rattle.lean_fixed.specs.Ranges.{IsWindow}
use Rattle.lean_fixed.specs.declared.time.Window.{Window}
use Rattle.rule_strategy.specs.Validity.{IsPlan}
use Rattle.clock_book.specs.Books.{Book}
use Rattle.clock_run.specs.Lines.{Line, closed, line_bytes}
use Rattle.clock_run.specs.Known.{World}
use Rattle.clock_run.specs.States.{Setup}
use Rattle.clock_run.specs.Reports.{moments, backtest, last_lines, report_bytes}
use Rattle.clock_run.specs.Summary.{live_orders, summary}
use Rattle.report_laws.specs.Ledger.{cash_in, position_in, equity_in, summary_in}
use Rattle.report_laws.specs.Closings.{closings_by, closings_before, selected_behind, ledger_of, HasLastPrice, IsAtLastBar, HasOne}
use Rattle.report_laws.proofs.BookLemmas.{book_ledger}
use Rattle.report_laws.proofs.PaidLemmas.{Goes, AddUp, add-split, moments-go, priced_at}
use Rattle.report_laws.proofs.PriceLemmas.{Grows, last-prices}
use Rattle.report_laws.proofs.HeldLemmas.{held-at}

-- a summary is made of the ledger of its book
summary-of : (book : Book) (equities : List ℤ)
    → summary book.start book equities ≡ summary_in (book_ledger book) (length book.orders) (live_orders book) equities
unfolding summary
summary-of book equities = refl

module _ (setup : Setup) (world : World) where
  abbrev whole : ℕ
  whole = last_moment setup.plan.window + 1 - first_moment setup.plan.window

  backtest-goes : Goes setup.plan.cash.0 (priced_at setup world) [] (closings_before setup world whole) (backtest setup world)
  backtest-goes = moments-go setup world whole

  pub closes-add : (before later : List Line) (t : ℕ) (cash equity : ℤ) → (backtest setup world).lines ≡ before ++ closed t cash equity ∷ later
      → (cash ≡ cash_in (ledger_of setup world t before)) × (equity ≡ equity_in (ledger_of setup world t before))
  closes-add before later t cash equity is =
      let start = setup.plan.cash.0 in
      add-split start (priced_at setup world) [] before later t cash equity (subst (AddUp start (priced_at setup world) []) is backtest-goes.shown)

  pub summary-adds : (backtest setup world).stop ≡ None
      → report_bytes setup (backtest setup world)
      ≡ flat_map line_bytes (backtest setup world).lines
      ++ summary_in (ledger_of setup world (last_moment setup.plan.window) (backtest setup world).lines) (length (backtest setup world).state.book.orders)
      (live_orders (backtest setup world).state.book) (backtest setup world).state.equities
  unfolding report_bytes
  summary-adds none =
      let ran = backtest setup world in
      let s = ran.state in
      let lines = flat_map line_bytes ran.lines in
      let left = backtest-goes.left none in
      ap (λ stop. lines ++ last_lines setup s stop) none
      ∙ ap (λ start. lines ++ summary start s.book s.equities) (sym (ap (λ ledger. ledger.start) left))
      ∙ ap (λ bytes. lines ++ bytes) (summary-of s.book s.equities)
      ∙ ap (λ ledger. lines ++ summary_in ledger (length s.book.orders) (live_orders s.book) s.equities) left

-- the first moment of a window has one before it
eve-of : (window : Window) → IsWindow window → first_moment window ≡ first_moment window - 1 + 1
eve-of window is = omega (arith, ints, is.first.0)

pub prices-last : (setup : Setup) (world : World) → IsPlan setup.plan → Grows world → (n : ℕ) → (moments setup world n).stop ≡ None
    → Each (HasLastPrice (world (first_moment setup.plan.window + n)).bars (closings_by setup world (first_moment setup.plan.window + n)))
    (selected_behind setup world n).securities
prices-last setup world valid grows n none =
    let first = first_moment setup.plan.window in
    let count : suc n ≡ first + n + 1 - first = omega arith in
    subst (λ k. Each (HasLastPrice (world (first + n)).bars (closings_before setup world k)) (selected_behind setup world n).securities) count
    (last-prices setup world valid grows (first - 1) (eve-of setup.plan.window valid.window.days) n none)

pub held-last : (setup : Setup) (world : World) → IsPlan setup.plan → Grows world → (n : ℕ) (symbol : List ℕ)
    → (moments setup world (n + 1)).stop ≡ None
    → position_in (ledger_of setup world (first_moment setup.plan.window + n) (moments setup world (n + 1)).lines) symbol ≢ pos 0
    → HasOne (IsAtLastBar symbol (world (first_moment setup.plan.window + n)).bars (closings_by setup world (first_moment setup.plan.window + n)))
    (moments setup world (n + 1)).state.securities
held-last setup world valid grows n symbol =
    let first = first_moment setup.plan.window in
    let count : suc n ≡ first + n + 1 - first = omega arith in
    let next : suc n ≡ n + 1 = omega arith in
    let at : (moments setup world (suc n)).stop ≡ None
    → position_in (ledger_of setup world (first + n) (moments setup world (suc n)).lines) symbol ≢ pos 0
    → HasOne (IsAtLastBar symbol (world (first + n)).bars (closings_by setup world (first + n))) (moments setup world (suc n)).state.securities =
    λ none held. subst (λ k. HasOne (IsAtLastBar symbol (world (first + n)).bars (closings_before setup world k)) (moments setup world (suc n)).state.securities) count
    (held-at symbol setup world grows (first - 1) (eve-of setup.plan.window valid.window.days) valid n none held) in
    subst (λ k. (moments setup world k).stop ≡ None
    → position_in (ledger_of setup world (first + n) (moments setup world k).lines) symbol ≢ pos 0
    → HasOne (IsAtLastBar symbol (world (first + n)).bars (closings_by setup world (first + n))) (moments setup world k).state.securities) next at
