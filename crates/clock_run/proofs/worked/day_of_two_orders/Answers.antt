use Rattle.std.specs.Prelude.{refl}
use Rattle.std.specs.Fmt.{digits}
use Rattle.lean_fixed.specs.Calendar.{carried_through, civil_of}
use Rattle.lean_fixed.specs.Printed.{units_text, money_text, day_text, moment_text}
use Rattle.exchange_hours.specs.Grid.{is_closing}
use Rattle.exchange_hours.specs.Sessions.{session}
use Rattle.rule_lang.specs.Tree.{windows_in, windows_under}
use Rattle.rule_lang.specs.Values.{number_of, truth_of}
use Rattle.rule_strategy.specs.Asked.{asked, requests_of}
use Rattle.clock_steps.specs.Runs.{run}
use Rattle.clock_book.specs.Handled.{after, replies}
use Rattle.clock_run.specs.Lines.{line_bytes}
use Rattle.clock_run.specs.Requests.{requests}
use Rattle.clock_run.specs.Moments.{moment_of}
use Rattle.clock_run.specs.Summary.{summary}
use Rattle.clock_run.specs.Reports.{report_bytes}
use Rattle.clock_run.proofs.worked.day_of_two_orders.Goals as goal

pub returns : goal.returns
unfolding digits run moment_of requests requests_of asked after replies is_closing session windows_in windows_under number_of truth_of line_bytes summary report_bytes units_text money_text moment_text day_text civil_of carried_through
returns c = refl
