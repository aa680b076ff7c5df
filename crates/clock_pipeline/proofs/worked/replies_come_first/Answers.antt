use Rattle.std.specs.Prelude.{refl}
use Rattle.std.specs.Fmt.{digits}
use Rattle.lean_fixed.specs.Calendar.{carried_through, civil_of}
use Rattle.lean_fixed.specs.Printed.{units_text, money_text, day_text, moment_text}
use Rattle.exchange_hours.specs.Grid.{is_closing}
use Rattle.exchange_hours.specs.Sessions.{session}
use Rattle.clock_feeds.specs.Feeds.{coarse_of}
use Rattle.clock_feeds.specs.Raw.{coarse_raw}
use Rattle.clock_steps.specs.Runs.{run}
use Rattle.clock_book.specs.Handled.{after, replies}
use Rattle.clock_run.specs.Lines.{line_bytes}
use Rattle.clock_run.specs.Requests.{requests}
use Rattle.clock_run.specs.Worlds.{world_of}
use Rattle.clock_pipeline.specs.Lanes.{next_of, held}
use Rattle.clock_pipeline.specs.Moments.{answered, moment_of}
use Rattle.clock_pipeline.specs.Steps.{all_reach, may_go_on, after_steps}
use Rattle.clock_pipeline.proofs.worked.replies_come_first.Goals as goal

pub returns-clause-waits : goal.returns-clause-waits
unfolding digits coarse_raw run moment_of requests after replies is_closing session line_bytes units_text money_text moment_text day_text civil_of carried_through coarse_of world_of next_of held answered all_reach may_go_on after_steps
returns-clause-waits c = refl

pub returns-clause-closes : goal.returns-clause-closes
unfolding digits coarse_raw run moment_of requests after replies is_closing session line_bytes units_text money_text moment_text day_text civil_of carried_through coarse_of world_of next_of held answered all_reach may_go_on after_steps
returns-clause-closes c = refl

pub returns-clause-full : goal.returns-clause-full
unfolding digits coarse_raw run moment_of requests after replies is_closing session line_bytes units_text money_text moment_text day_text civil_of carried_through coarse_of world_of next_of held answered all_reach may_go_on after_steps
returns-clause-full c = refl
