use Rattle.exchange_hours.proofs.GridLemmas.{close_tested_by, close_told_by, close_not_told, close_daily, close_lies, closings_rise}
use Rattle.exchange_hours.proofs.laws.closings.Goals as goal

pub returns-clause-tested : goal.returns-clause-tested
returns-clause-tested c = close_tested_by

pub returns-clause-told : goal.returns-clause-told
returns-clause-told c = close_told_by

pub returns-clause-not_told : goal.returns-clause-not_told
returns-clause-not_told c = close_not_told

pub returns-clause-daily : goal.returns-clause-daily
returns-clause-daily c = close_daily

pub returns-clause-lie : goal.returns-clause-lie
returns-clause-lie c = close_lies

pub returns-clause-rise : goal.returns-clause-rise
returns-clause-rise c = closings_rise
