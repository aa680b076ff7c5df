use Rattle.std.proofs.lemmas.List.Elements.{All-from_recursion}
use Rattle.lean_fixed.specs.Moments.{last_moment}
use Rattle.clock_feeds.specs.Lists.{IsSound}
use Rattle.clock_feeds.specs.Feeds.{bars_of}
use Rattle.clock_feeds.proofs.CutLemmas.{sound_end}
use Rattle.clock_feeds.proofs.FeedLemmas.{kept_are}
use Rattle.clock_feeds.proofs.laws.kept_bars_are_sound.Goals as goal

pub returns-clause-sound : goal.returns-clause-sound
returns-clause-sound c =
    λ files hours window key symbol resolution every is_window is.
    All-from_recursion (IsSound key.start.0 (last_moment window)) (bars_of files hours window key symbol resolution).rows
    (kept_are files hours window key symbol resolution every is_window is).0

pub returns-clause-rise : goal.returns-clause-rise
returns-clause-rise c =
    λ files hours window key symbol resolution every is_window is.
    (kept_are files hours window key symbol resolution every is_window is).1

pub returns-clause-end : goal.returns-clause-end
returns-clause-end c =
    λ files hours window key symbol resolution every is_window is.
    sound_end key.start.0 (last_moment window) (bars_of files hours window key symbol resolution).rows
    (kept_are files hours window key symbol resolution every is_window is).0
