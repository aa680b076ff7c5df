use Rattle.std.proofs.Common.{sym, ◌∙◌, filter}
use Rattle.data_maker.specs.MadeFiles.{is_workday}
use Rattle.data_maker.proofs.files.pass_day.Goals as goal

pub returns-then-is_workday-clause-files : goal.returns-then-is_workday-clause-files
returns-then-is_workday-clause-files c =
    λ later. rw (sym c.is_workday.ensures ∙ c.if-is_workday.true) (c.in_ok-put_day.ensures.files (filter is_workday later))
