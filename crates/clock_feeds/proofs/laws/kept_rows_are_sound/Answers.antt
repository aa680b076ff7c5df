use Rattle.std.proofs.lemmas.List.Elements.{All-from_recursion}
use Rattle.lean_fixed.specs.Moments.{last_moment}
use Rattle.clock_feeds.specs.Lists.{IsSoundRow}
use Rattle.clock_feeds.specs.Feeds.{coarse_of}
use Rattle.clock_feeds.proofs.FeedLemmas.{coarse_are}
use Rattle.clock_feeds.proofs.laws.kept_rows_are_sound.Goals as goal

pub returns-clause-sound : goal.returns-clause-sound
returns-clause-sound c =
    λ files hours window key is_window is.
    All-from_recursion (IsSoundRow key.start.0 (last_moment window)) (coarse_of files hours window key).rows
    (coarse_are files hours window key is_window is).0

pub returns-clause-rise : goal.returns-clause-rise
returns-clause-rise c = λ files hours window key is_window is. (coarse_are files hours window key is_window is).1
