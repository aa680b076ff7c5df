-- The next grid end, and the bar that is given again there.
use Rattle.std.proofs.Common.{◌≡◌, ℕ, ◌≤◌, ℤ, pos, ◌<ℤ◌, ◌-ℤ◌, true, false, sym, ap, ◌∙◌, subst, arith, unsigned_abs}
use Rattle.std.specs.Prelude.{Option, Some, None}
use Rattle.std.proofs.lemmas.Int.{ints}
use Rattle.lean_fixed.specs.declared.resolution.Resolution.{Resolution}
use Rattle.lean_fixed.specs.declared.time.Moment.{Moment}
use Rattle.lean_items.specs.declared.bar.Bar.{Bar}
use Rattle.exchange_hours.specs.Entries.{Entries}
use Rattle.exchange_hours.specs.Grid.{IsGridEnd, is_grid_end}
use Rattle.exchange_hours.specs.Next.{IsNext}
use Rattle.clock_feeds.specs.Bars.{Filling, filled}
use Rattle.fill_forward.specs.Again.{IsNextEnd, IsAgain}

pub next_end_is : (hours : Entries) (resolution : Resolution) (after until before : ℤ) (found : Option Moment)
    → ((t : ℕ) → IsGridEnd hours resolution t → is_grid_end hours resolution t ≡ true)
    → ((t : ℕ) → ¬ IsGridEnd hours resolution t → is_grid_end hours resolution t ≡ false)
    → until ≡ before -ℤ pos 1 → IsNext (IsGridEnd hours resolution) after until found → IsNextEnd hours resolution after before found
next_end_is hours resolution after until before None tested not_told is none =
    λ t low high. not_told t (λ g. none t g low (omega (arith, ints, is, high)))
next_end_is hours resolution after until before (Some end) tested not_told is (t, end_is, g, low, within, least) = (
  t,
  end_is,
  low,
  omega (arith, ints, is, within),
  tested t g,
  λ u above below. not_told u (λ h. let le : t ≤ u = least u h above in absurd (omega (arith, ints, le, below))),
)

pub again_is : (f : Filling) (last : Option Bar) (row : Bar) (at before : ℤ) (end : Moment) (bar : Bar) → last ≡ Some row → IsNextEnd f.hours f.resolution at before (Some end)
    → bar ≡ filled f (unsigned_abs end.0) row → IsAgain f last at before (Some bar)
again_is f last row at before end bar is (t, end_is, low, high, grid, quiet) bar_is =
    subst (λ l. IsAgain f l at before (Some bar)) (sym is)
    (t, bar_is ∙ ap (λ z. filled f (unsigned_abs z) row) end_is, low, high, grid, quiet)

pub end_between : (hours : Entries) (resolution : Resolution) (at before : ℤ) (end : Moment) → IsNextEnd hours resolution at before (Some end) → (at <ℤ end.0) × (end.0 <ℤ before)
end_between hours resolution at before end (t, end_is, low, high, grid, quiet) =
    (subst (λ z. at <ℤ z) (sym end_is) low, subst (λ z. z <ℤ before) (sym end_is) high)
