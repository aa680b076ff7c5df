use Rattle.portfolio.proofs.MoneyLemmas.{cash_money, fees_money, realised_money, equity_money, gross_money, others_money, position_range}
use Rattle.portfolio.proofs.laws.sums_stay_in_range.Goals as goal

pub returns-clause-cash : goal.returns-clause-cash
returns-clause-cash c = cash_money

pub returns-clause-fees : goal.returns-clause-fees
returns-clause-fees c = fees_money

pub returns-clause-realised : goal.returns-clause-realised
returns-clause-realised c = realised_money

pub returns-clause-equity : goal.returns-clause-equity
returns-clause-equity c = equity_money

pub returns-clause-gross : goal.returns-clause-gross
returns-clause-gross c = gross_money

pub returns-clause-others : goal.returns-clause-others
returns-clause-others c = others_money

pub returns-clause-position : goal.returns-clause-position
returns-clause-position c = position_range
