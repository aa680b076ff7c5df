use Rattle.std.proofs.Common.{ap, ◌∙◌}
use Rattle.lean_top.specs.HoursRead.{hours_path}
use Rattle.lean_top.specs.Report.{world_for}
use Rattle.lean_top.proofs.AheadLemmas.{hours_lie, plan_valid, report_is, lines_first}
use Rattle.lean_top.proofs.laws.fills_account.Goals as goal

pub returns-clause-lines : goal.returns-clause-lines
returns-clause-lines c = lines_first

pub returns-clause-closes : goal.returns-clause-closes
returns-clause-closes c files words setup runs = c.fills_account.ensures.closes setup (world_for files setup)

pub returns-clause-summary : goal.returns-clause-summary
returns-clause-summary c files words setup runs none =
    ap (λ all. all.0) (report_is files words setup runs) ∙ c.fills_account.ensures.summary setup (world_for files setup) none

pub returns-clause-held : goal.returns-clause-held
returns-clause-held c files words setup runs n symbol =
    c.last_bars.ensures.held setup files n symbol (hours_lie (files hours_path) setup.hours runs.hours)
    (plan_valid c.plans_are_valid.ensures (files runs.path) setup.plan runs.algorithm)
