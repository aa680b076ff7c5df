use Rattle.std.proofs.Common.{◌≡◌, true, false, ℕ, List, [], ◌∷◌}
use Rattle.std.specs.Fmt.{digits}
use Rattle.lean_fixed.specs.Calendar.{carried_through, civil_of}
use Rattle.lean_fixed.specs.Printed.{units_text, money_text, day_text, moment_text}
use Rattle.exchange_hours.specs.Grid.{is_closing}
use Rattle.exchange_hours.specs.Sessions.{session}
use Rattle.clock_feeds.specs.Feeds.{coarse_of}
use Rattle.clock_feeds.specs.Raw.{coarse_raw}
use Rattle.clock_steps.specs.Runs.{run}
use Rattle.clock_book.specs.Handled.{after, replies}
use Rattle.clock_run.specs.Lines.{line_bytes}
use Rattle.clock_run.specs.Requests.{requests}
use Rattle.clock_run.specs.Worlds.{world_of}
use Rattle.clock_pipeline.specs.Lanes.{next_of, held}
use Rattle.clock_pipeline.specs.Moments.{answered, moment_of}
use Rattle.clock_pipeline.specs.Steps.{all_reach, may_go_on, after_steps}
use Rattle.clock_pipeline.proofs.worked.what_does_not_fit.Goals as goal

pub returns-clause-unheard : goal.returns-clause-unheard
unfolding digits coarse_raw run moment_of requests after replies is_closing session line_bytes units_text money_text moment_text day_text civil_of carried_through coarse_of world_of next_of held answered all_reach may_go_on after_steps
returns-clause-unheard c = λ fits. (let wrong : false ≡ true = fits.heard in cc)

pub returns-clause-out_of_turn : goal.returns-clause-out_of_turn
returns-clause-out_of_turn c = λ fits. (let wrong = fits.command_lane.is in cc)

pub returns-clause-skipped : goal.returns-clause-skipped
returns-clause-skipped c = λ fits. (let wrong = fits.reply_lane.is in cc)

pub returns-clause-early : goal.returns-clause-early
unfolding digits coarse_raw run moment_of requests after replies is_closing session line_bytes units_text money_text moment_text day_text civil_of carried_through coarse_of world_of next_of held answered all_reach may_go_on after_steps
returns-clause-early c = λ fits. (let wrong : ◌≡◌ {A = List ℕ} (50 ∷ []) [] = fits.text in cc)
