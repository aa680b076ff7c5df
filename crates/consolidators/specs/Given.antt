-- What a consolidator gives, as a list.
use Rattle.std.specs.Prelude.{List, [], ◌∷◌}
use Rattle.lean_items.specs.declared.bar.Bar.{Bar}
use Rattle.consolidators.specs.declared.given.Given.{Given}
use Rattle.consolidators.specs.declared.given.Given.TheVariants.{Nothing, One, Two}

abbrev pub given_bars : Given → List Bar
given_bars Nothing = []
given_bars (One bar) = bar ∷ []
given_bars (Two earlier bar) = earlier ∷ bar ∷ []
