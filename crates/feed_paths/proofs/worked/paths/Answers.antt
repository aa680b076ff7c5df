use Rattle.std.proofs.Common.{refl}
use Rattle.lean_fixed.specs.Calendar.{civil_of, carried_through}
use Rattle.lean_fixed.specs.Printed.{day_text}
use Rattle.feed_paths.specs.Paths.{path_of}
use Rattle.feed_paths.proofs.worked.paths.Goals as goal

pub returns-clause-minute : goal.returns-clause-minute
unfolding path_of day_text civil_of carried_through
returns-clause-minute c = refl

pub returns-clause-hour : goal.returns-clause-hour
unfolding path_of
returns-clause-hour c = refl

pub returns-clause-daily : goal.returns-clause-daily
unfolding path_of
returns-clause-daily c = refl

pub returns-clause-coarse : goal.returns-clause-coarse
unfolding path_of day_text civil_of carried_through
returns-clause-coarse c = refl
