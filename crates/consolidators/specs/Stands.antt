-- The bars that a consolidator has heard, of which it keeps one.
use Rattle.std.specs.Prelude.{ℕ, ℤ, ◌≤ℤ◌, List, All}
use Rattle.std.specs.Option.{option_to_list}
use Rattle.lean_items.specs.declared.bar.Bar.{Bar}
use Rattle.consolidators.specs.declared.consolidator.Consolidator.{Consolidator}
use Rattle.consolidators.specs.Left.{Leaves}
use Rattle.consolidators.specs.Pushed.{ArePushed}

-- the minutes of its buckets
abbrev pub period_of : Consolidator → ℕ
period_of consolidator = consolidator.period

-- every bar that was pushed ended by this moment
abbrev pub EndsBy : ℤ → Consolidator → Type 0
EndsBy moment consolidator = consolidator.ended.0 ≤ℤ moment

-- the consolidator stands for the list of the bars that were pushed
pub record StandsFor (consolidator : Consolidator) (bars : List Bar) : Type 0 where
  pub pushed : ArePushed consolidator.period bars
  pub ended : All (λ bar. bar.end.0 ≤ℤ consolidator.ended.0) bars
  pub left : Leaves consolidator.period bars (option_to_list consolidator.held)
