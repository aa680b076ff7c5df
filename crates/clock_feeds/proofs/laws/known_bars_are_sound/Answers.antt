use Rattle.std.proofs.Common.{refl, sym, subst}
use Rattle.std.specs.List.{All}
use Rattle.std.proofs.lemmas.List.Elements.{All-from_recursion}
use Rattle.lean_fixed.specs.Moments.{last_moment}
use Rattle.clock_feeds.specs.Grid.{IsOnGrid}
use Rattle.clock_feeds.specs.Lists.{IsSound}
use Rattle.clock_feeds.specs.Slices.{source}
use Rattle.clock_feeds.specs.Known.{bars_by, feed_bars_of, feed_bars}
use Rattle.clock_feeds.proofs.KeyLemmas.{known_sound}
use Rattle.clock_feeds.proofs.OnGridLemmas.{known_on_grid}
use Rattle.clock_feeds.proofs.laws.known_bars_are_sound.Goals as goal

pub returns-clause-sound : goal.returns-clause-sound
returns-clause-sound c =
    λ files hours window key t every is_window.
    All-from_recursion (IsSound key.start.0 (last_moment window)) (feed_bars files hours window key t) (known_sound files hours window key every is_window key.kind refl t)

pub returns-clause-grid : goal.returns-clause-grid
returns-clause-grid c =
    λ files hours window key symbol resolution t is.
    subst (λ kind. All (IsOnGrid hours resolution) (feed_bars_of files hours window key kind t)) (sym is)
    (All-from_recursion (IsOnGrid hours resolution) (bars_by (source files hours window key symbol resolution) t) (known_on_grid files hours window key symbol resolution t))
