use Rattle.exchange_hours.proofs.GridLemmas.{grid_tested, grid_told, grid_not_told, grid_end_lies}
use Rattle.exchange_hours.proofs.laws.grid_ends.Goals as goal

pub returns-clause-tested : goal.returns-clause-tested
returns-clause-tested c = grid_tested

pub returns-clause-told : goal.returns-clause-told
returns-clause-told c = grid_told

pub returns-clause-not_told : goal.returns-clause-not_told
returns-clause-not_told c = grid_not_told

pub returns-clause-lie : goal.returns-clause-lie
returns-clause-lie c = grid_end_lies
