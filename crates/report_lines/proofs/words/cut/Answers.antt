use Rattle.report_lines.proofs.Readings.{joined_range, cut_at}
use Rattle.report_lines.proofs.words.cut.Goals as goal

pub returns-clause-joined : goal.returns-clause-joined
returns-clause-joined c = joined_range c.args.text.now c.in_ok-at.at c.in_ok-at.ensures.found.0 c.in_ok-at.ensures.found.1

pub returns-clause-value : goal.returns-clause-value
returns-clause-value c = cut_at c.args.text.now c.in_ok-at.at c.in_ok-at.ensures.value
