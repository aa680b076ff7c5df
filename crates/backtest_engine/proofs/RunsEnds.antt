-- How a run over lists that tell a world ends, and its report.
use Rattle.std.proofs.Common.{◌≡◌, ℕ, ◌+◌, ◌-◌, List, ◌++◌, refl, ap, sym, ◌∙◌}
use Rattle.std.specs.Prelude.{Option, Some, None, option_map, flat_map}
use Rattle.lean_fixed.specs.Moments.{first_moment, last_moment}
use Rattle.lean_items.specs.declared.feed_key.FeedKey.{FeedKey}
use Rattle.lean_items.specs.declared.item.Item.{Item}
use Rattle.rule_strategy.specs.Validity.{IsPlan}
use Rattle.clock_run.specs.InRange.{IsWorldInRange}
use Rattle.clock_run.specs.Known.{Known, World}
use Rattle.clock_steps.specs.Runs.{Ran}
use Rattle.clock_run.specs.Lines.{Line, Halt as ClockHalt, line_bytes, halt_bytes}
use Rattle.clock_run.specs.Reports.{moments, backtest, last_lines, report_bytes}
use Rattle.clock_run.specs.States as clock
use Rattle.clock_run.specs.States.{Setup}
use Rattle.backtest_engine.specs.declared.limits.Limit.TheVariants.{Securities, Requests}
use Rattle.backtest_engine.specs.Algorithms.{Own, opening_state, meaning_of}
use Rattle.backtest_engine.specs.Backtests.{ended_of}
use Rattle.backtest_engine.specs.Meaning.{State}
use Rattle.backtest_engine.specs.Reported.{ended_by}
use Rattle.backtest_engine.specs.Reports.{Halt, limited, malformed, halt_line, minutes, whole, last_text, report_of}
use Rattle.backtest_engine.specs.Tells.{Tells}
use Rattle.backtest_engine.proofs.RunsSteps.{clock_halt}
use Rattle.backtest_engine.proofs.RunsWalks.{Going, Runs, runs}

halt-text : (h : Halt) → halt_line h ≡ halt_bytes (clock_halt h)
unfolding halt_bytes
halt-text (limited Securities) = refl
halt-text (limited Requests) = refl
halt-text (malformed key bad) = refl

ends-alike : (z : Option Halt) → ended_by z ≡ ended_of (option_map clock_halt z)
ends-alike None = refl
ends-alike (Some (limited Securities)) = refl
ends-alike (Some (limited Requests)) = refl
ends-alike (Some (malformed key bad)) = refl

-- what is printed last
last-alike : (setup : Setup) (known : Known) (z : Option Halt) (e : State Own) (d : clock.State)
    → (option_map clock_halt z ≡ None → Going setup known e d)
    → last_text (meaning_of setup) z e ≡ last_lines setup d (option_map clock_halt z)
unfolding meaning_of
last-alike setup known (Some h) e d going = halt-text h
last-alike setup known None e d going =
    ap (λ e. last_text (meaning_of setup) None e) (going refl).state

report-alike : (setup : Setup) (known : Known) (e : Ran (State Own) ℕ Halt) (d : Ran clock.State Line ClockHalt) → Runs setup known e d
    → report_of (meaning_of setup) e ≡ report_bytes setup d
unfolding report_bytes
report-alike setup known e d r =
    let last : last_text (meaning_of setup) e.stop e.state ≡ last_lines setup d.state d.stop =
    last-alike setup known e.stop e.state d.state (λ none. r.going (sym r.stop ∙ none)) ∙ ap (last_lines setup d.state) r.stop in
    λ j. r.lines j ++ last j

module _ (setup : Setup) (world : World) (lists : FeedKey → List Item) (plan : IsPlan setup.plan) (ranged : IsWorldInRange world)
    (tells : Tells setup world lists) where
  abbrev first : ℕ
  first = first_moment setup.plan.window

  abbrev last : ℕ
  last = last_moment setup.plan.window

  abbrev count : ℕ
  count = last + 1 - first

  pub reports : report_of (meaning_of setup) (whole (meaning_of setup) lists first last (opening_state setup)) ≡ report_bytes setup (backtest setup world)
  reports = report-alike setup (world (first + count - 1)) (whole (meaning_of setup) lists first last (opening_state setup)) (backtest setup world)
      (runs setup world lists plan ranged tells count)

  pub ends : ended_by (whole (meaning_of setup) lists first last (opening_state setup)).stop ≡ ended_of (backtest setup world).stop
  ends = ends-alike (whole (meaning_of setup) lists first last (opening_state setup)).stop
      ∙ ap ended_of (runs setup world lists plan ranged tells count).stop

  pub prints : (n : ℕ) → (minutes (meaning_of setup) lists first (opening_state setup) n).lines ≡ flat_map line_bytes (moments setup world n).lines
  prints n = (runs setup world lists plan ranged tells n).lines
