use Rattle.std.proofs.Common.{refl}
use Rattle.coarse_csv.specs.Rows.{coarse_row}
use Rattle.clock_feeds.specs.Raw.{coarse_raw}
use Rattle.clock_feeds.specs.Feeds.{coarse_of}
use Rattle.lean_fixed.specs.Calendar.{civil_of, carried_through}
use Rattle.lean_fixed.specs.Printed.{day_text}
use Rattle.feed_paths.specs.Paths.{path_of}
use Rattle.clock_feeds.proofs.worked.coarse_of_a_sunday.Goals as goal

pub returns-clause-rows : goal.returns-clause-rows
unfolding coarse_of coarse_raw coarse_row path_of day_text civil_of carried_through
returns-clause-rows c = refl

pub returns-clause-stop : goal.returns-clause-stop
unfolding coarse_of coarse_raw coarse_row path_of day_text civil_of carried_through
returns-clause-stop c = refl

pub returns-clause-blocked : goal.returns-clause-blocked
unfolding coarse_of coarse_raw coarse_row path_of day_text civil_of carried_through
returns-clause-blocked c = refl
