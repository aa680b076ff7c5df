use Rattle.std.proofs.lemmas.List.Elements.{recursion_from_All}
use Rattle.clock_feeds.specs.Lists.{IsSound}
use Rattle.clock_feeds.proofs.ListLemmas.{bar_ends}
use Rattle.clock_feeds.proofs.RiseLemmas.{bar_sound}
use Rattle.clock_feeds.proofs.laws.bars_are_sound.Goals as goal

pub returns-clause-end : goal.returns-clause-end
returns-clause-end c = bar_ends

pub returns-clause-sound : goal.returns-clause-sound
returns-clause-sound c =
    λ start f kept t bar small sound within is.
    bar_sound start f kept t bar small (recursion_from_All (IsSound start f.last) kept.rows sound) within is
