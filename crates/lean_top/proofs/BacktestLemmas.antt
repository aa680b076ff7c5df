-- The lines of whole moments of a backtest are a front of its report.
use Rattle.std.proofs.Common.{◌≡◌, ℕ, zero, suc, ◌+◌, ◌-◌, ◌≤◌, List, ◌++◌, refl, ap, subst, ◌∙◌, arith}
use Rattle.std.specs.Prelude.{Option, flat_map}
use Rattle.std.proofs.lemmas.List.{append_assoc}
use Rattle.std.proofs.lemmas.List.Concat.{flat_map-append}
use Rattle.lean_fixed.specs.Moments.{first_moment, last_moment}
use Rattle.clock_steps.specs.Runs.{run, IsFrontOf}
use Rattle.clock_run.specs.Lines.{line_bytes}
use Rattle.clock_run.specs.Known.{World}
use Rattle.clock_run.specs.States.{Setup}
use Rattle.clock_run.specs.Reports.{moments, backtest, last_lines, report_bytes}
use Rattle.report_pages.specs.Printed.{IsTaken}
use Rattle.lean_top.specs.declared.status.Status.TheVariants.{ReadFault}
use Rattle.lean_top.specs.Outcome.{HasReported}
use Rattle.lean_top.specs.Report.{backtest_report_of, AreMomentsOf}

-- `fronts` is the law of `no_look_ahead` on the lines up to a moment
module _ (setup : Setup) (world : World)
    (fronts : (t : ℕ) → t ≤ last_moment setup.plan.window
    → IsFrontOf (moments setup world (t + 1 - first_moment setup.plan.window)).lines (backtest setup world).lines) where
  -- so many moments, at most all of the window
  abbrev IsWithin : ℕ → Type 0
  IsWithin count = count ≤ last_moment setup.plan.window + 1 - first_moment setup.plan.window

  lines_front : (count : ℕ) → IsWithin count → IsFrontOf (moments setup world count).lines (backtest setup world).lines
  unfolding run
  lines_front zero within = record { rest = (backtest setup world).lines; is = refl }
  lines_front (suc n) within =
      let first = first_moment setup.plan.window in
      let same : (first + n) + 1 - first ≡ suc n = omega arith in
      subst (λ count. IsFrontOf (moments setup world count).lines (backtest setup world).lines) same (fronts (first + n) (omega (arith, within)))

  pub moments_front : (count : ℕ) → IsWithin count
      → IsFrontOf (flat_map line_bytes (moments setup world count).lines) (report_bytes setup (backtest setup world))
  unfolding report_bytes
  moments_front count within =
      let ran = backtest setup world in
      let lines = (moments setup world count).lines in
      let front = lines_front count within in
      let last = last_lines setup ran.state ran.stop in
      record {
        rest = flat_map line_bytes front.rest ++ last;
        is = ap (λ all. flat_map line_bytes all ++ last) front.is
            ∙ ap (λ bytes. bytes ++ last) (flat_map-append line_bytes lines front.rest)
            ∙ append_assoc (flat_map line_bytes lines) (flat_map line_bytes front.rest) last;
      }

  -- where a read failed, the lines of so many moments were taken
  pub read_reported : (count : ℕ) (before after : Option (List ℕ)) → IsWithin count
      → IsTaken before after (flat_map line_bytes (moments setup world count).lines)
      → HasReported (backtest_report_of setup (backtest setup world)) (AreMomentsOf setup world) before after ReadFault
  read_reported count before after within taken = (
    flat_map line_bytes (moments setup world count).lines,
    record { count = count; small = within; is = refl },
    moments_front count within,
    taken,
  )
