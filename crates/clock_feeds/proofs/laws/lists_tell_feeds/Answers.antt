use Rattle.std.proofs.Common.{refl, sym, ap, ◌∙◌}
use Rattle.clock_feeds.specs.Feeds.{coarse_of, feed_of}
use Rattle.clock_feeds.specs.Lists.{bars_ending, rows_ending}
use Rattle.clock_feeds.proofs.FeedLemmas.{coarse_told}
use Rattle.clock_feeds.proofs.KeyLemmas.{bars_told_of, blocked_of}
use Rattle.clock_feeds.proofs.laws.lists_tell_feeds.Goals as goal

pub returns-clause-bars : goal.returns-clause-bars
returns-clause-bars c =
    λ files hours window key symbol resolution t every is_window is.
    ap (λ kind. bars_ending t (feed_of files hours window key kind)) is ∙ bars_told_of files hours window key every is_window symbol resolution is t

pub returns-clause-rows : goal.returns-clause-rows
returns-clause-rows c =
    λ files hours window key t is.
    ap (λ kind. rows_ending t (feed_of files hours window key kind)) is ∙ sym (coarse_told t (coarse_of files hours window key))

pub returns-clause-blocked : goal.returns-clause-blocked
returns-clause-blocked c = λ files hours window key t every is_window. blocked_of files hours window key every is_window key.kind refl t
